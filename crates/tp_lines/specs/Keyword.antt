-- The first words of lines.
use Rattle.std.specs.Prelude.{ℕ, List, [], ◌∷◌, Option, option_map, find, codes}
use Rattle.std.specs.Str.{bytes_eq}
use Rattle.tp_lines.specs.declared.keyword.Alone.TheVariants as alone
use Rattle.tp_lines.specs.declared.keyword.Deed.TheVariants as deed
use Rattle.tp_lines.specs.declared.keyword.HeadVerb.TheVariants as head
use Rattle.tp_lines.specs.declared.keyword.Keyword.{Keyword}
use Rattle.tp_lines.specs.declared.keyword.Keyword.TheVariants.{Head, Do, Version}
use Rattle.tp_lines.specs.declared.keyword.OfId.TheVariants as of
use Rattle.tp_lines.specs.declared.keyword.Verb.TheVariants as verb

-- how each first word is written, and what its line is
abbrev pub first_words : List (List ℕ × Keyword)
first_words =
    (codes "limit", Head head.Limit)
    ∷ (codes "max", Head head.Max)
    ∷ (codes "keep", Head head.Keep)
    ∷ (codes "server", Head head.Server)
    ∷ (codes "start", Head head.Start)
    ∷ (codes "worker", Head head.Worker)
    ∷ (codes "register", Head head.Register)
    ∷ (codes "numbers", Head head.Numbers)
    ∷ (codes "element", Head head.Element)
    ∷ (codes "over", Head head.Over)
    ∷ (codes "settled", Head head.Settled)
    ∷ (codes "hand", Head head.Hand)
    ∷ (codes "prepared", Head head.Prepared)
    ∷ (codes "dropped", Head head.Dropped)
    ∷ (codes "from", Head head.From)
    ∷ (codes "ended", Head head.Ended)
    ∷ (codes "client", Head head.Client)
    ∷ (codes "submit", Do verb.Submit)
    ∷ (codes "kill", Do (verb.OfId of.Kill))
    ∷ (codes "cancel", Do (verb.OfId of.Cancel))
    ∷ (codes "requeue", Do (verb.OfId of.Requeue))
    ∷ (codes "release", Do (verb.OfId of.Release))
    ∷ (codes "read", Do (verb.OfId of.Read))
    ∷ (codes "reply", Do (verb.OfId of.Reply))
    ∷ (codes "collect", Do (verb.OfId of.Collect))
    ∷ (codes "family", Do (verb.OfId of.Family))
    ∷ (codes "errors", Do (verb.Alone alone.Errors))
    ∷ (codes "count", Do (verb.Alone alone.Count))
    ∷ (codes "depth", Do (verb.Alone alone.Depth))
    ∷ (codes "account", Do (verb.Alone alone.Account))
    ∷ (codes "holds", Do (verb.Alone alone.Holds))
    ∷ (codes "dump", Do (verb.Alone alone.Dump))
    ∷ (codes "restore", Do (verb.Alone alone.Restore))
    ∷ (codes "claim", Do (verb.Deed deed.Claim))
    ∷ (codes "next", Do (verb.Deed deed.Next))
    ∷ (codes "turn", Do (verb.Deed deed.Turn))
    ∷ (codes "prepare", Do (verb.Deed deed.Prepare))
    ∷ (codes "abort", Do verb.Abort)
    ∷ (codes "drop", Do (verb.Deed deed.Drop))
    ∷ (codes "list", Do verb.List)
    ∷ (codes "drain", Do verb.Drain)
    ∷ (codes "sum", Do verb.Sum)
    ∷ (codes "balance", Do verb.Balance)
    ∷ (codes "take", Do verb.Take)
    ∷ (codes "commit", Do verb.Commit)
    ∷ (codes "leave", Do verb.Leave)
    ∷ (codes "send", Do verb.Send)
    ∷ (codes "receive", Do verb.Receive)
    ∷ (codes "last", Do verb.Last)
    ∷ (codes "forget", Do verb.Forget)
    ∷ (codes "version", Version)
    ∷ []

-- what a line of this first word is
abbrev pub keyword : List ℕ → Option Keyword
keyword word = option_map (λ row. row.1) (find (λ row. bytes_eq row.0 word) first_words)
