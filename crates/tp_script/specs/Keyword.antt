-- The first words of lines.
use Rattle.std.specs.Prelude.{ℕ, List, [], ◌∷◌, Option, option_map, find, codes}
use Rattle.std.specs.Str.{bytes_eq}
use Rattle.tp_script.specs.declared.keyword.Keyword.{Keyword}
use Rattle.tp_script.specs.declared.keyword.Keyword.TheVariants.{Rows, Units, Limit, Spare, Server, Start, Do}
use Rattle.tp_script.specs.declared.keyword.Keyword.TheVariants.{Race, Drain, Rollover, Account}
use Rattle.tp_script.specs.declared.keyword.Verb.TheVariants as verb
use Rattle.tp_script.specs.declared.script.DeskAct.TheVariants as desk

-- how each first word is written, and what its line is
abbrev pub first_words : List (List ℕ × Keyword)
first_words =
    (codes "rows", Rows)
    ∷ (codes "units", Units)
    ∷ (codes "limit", Limit)
    ∷ (codes "spare", Spare)
    ∷ (codes "server", Server)
    ∷ (codes "start", Start)
    ∷ (codes "submit", Do verb.Submit)
    ∷ (codes "turn", Do (verb.Desk desk.Turn))
    ∷ (codes "reply", Do verb.Reply)
    ∷ (codes "claim", Do (verb.Desk desk.Claim))
    ∷ (codes "next", Do (verb.Desk desk.Next))
    ∷ (codes "take", Do verb.Take)
    ∷ (codes "prepare", Do (verb.Desk desk.Prepare))
    ∷ (codes "commit", Do (verb.Desk desk.Commit))
    ∷ (codes "abort", Do (verb.Desk desk.Abort))
    ∷ (codes "drop", Do (verb.Desk desk.Drop))
    ∷ (codes "kill", Do verb.Kill)
    ∷ (codes "cancel", Do verb.Cancel)
    ∷ (codes "requeue", Do verb.Requeue)
    ∷ (codes "release", Do verb.Release)
    ∷ (codes "collect", Do verb.Collect)
    ∷ (codes "family", Do verb.Family)
    ∷ (codes "read", Do verb.Read)
    ∷ (codes "errors", Do verb.Errors)
    ∷ (codes "balance", Do verb.Balance)
    ∷ (codes "sum", Do verb.Sum)
    ∷ (codes "count", Do verb.Count)
    ∷ (codes "race", Race)
    ∷ (codes "drain", Drain)
    ∷ (codes "rollover", Rollover)
    ∷ (codes "account", Account)
    ∷ []

-- what a line of this first word is
abbrev pub keyword : List ℕ → Option Keyword
keyword word = option_map (λ row. row.1) (find (λ row. bytes_eq row.0 word) first_words)
