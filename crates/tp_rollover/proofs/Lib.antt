pub mod AloneApart
pub mod AloneThreads
pub mod AlonePoints
pub mod AloneSubmits
pub mod AloneFirsts
pub mod AloneClaims
pub mod AloneGiven
pub mod AloneAborts
pub mod AloneCommits
pub mod AloneLooks
pub mod AloneKills
pub mod AloneWalks
pub mod AloneEndings
pub mod AloneCancels
pub mod AloneRequeues
pub mod AloneReleases
pub mod AlonePlaces
pub mod AloneStarts
pub mod AloneGatherings
pub mod AloneLists
pub mod AloneMembers
pub mod AloneIdle
pub mod AloneMiddles
pub mod AloneTurns
pub mod PairLaws
pub mod Seen
pub mod Lists
pub mod Checked
pub mod Differing
pub mod Kinships
pub mod Heads
pub mod Holding
pub mod GivingUp
pub mod Standing
pub mod Stopping
pub mod Burying
pub mod KillRuns
pub mod Others
pub mod Founds
pub mod Assembly
pub mod Managing
pub mod Tallies
pub mod Steps
pub mod Sums
pub mod Replaying
mod Worked
mod WorkedHeld
mod WorkedAlike
pub mod Carrying
pub mod Restored
pub mod Freed
pub mod Calling
pub mod Inside
pub mod Idling
pub mod BirthsPlaces
pub mod BirthsGroups
pub mod ReplaysAll
pub mod BirthsSteps
pub mod Agreeing
pub mod MadeAnew
pub mod MadeAlike
pub mod FoundFit
pub mod BirthsAll
pub mod Running
pub mod BirthsRuns
mod Acts
mod Endings
mod Climbing
mod Trying
mod Bearing
mod Grouping
mod OfFamily
mod Sound
mod NextBorn
mod Birthing
mod FoundSound
mod HeldAll
mod StandsAnew
pub mod Roots
pub mod Lasting
