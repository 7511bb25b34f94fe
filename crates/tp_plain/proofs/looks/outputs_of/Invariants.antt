use Rattle.std.proofs.Common.{◌≡◌, ◌+◌, take}
use Rattle.std.specs.List.{All}
use Rattle.tp_model.specs.Births.{IsWhole, outputs}
use Rattle.tp_plain.proofs.looks.outputs_of.Given as goal

-- the drafts so far have become outputs, and are whole
abbrev pub invariant-loop-draft : goal.invariant-loop-draft
invariant-loop-draft l =
    record {
      place : l.id ≡ l.first + l.draft-index;
      made : l.outs.items ≡ outputs l.unit l.root l.first (take l.draft-index l.drafts);
      whole : All IsWhole (take l.draft-index l.drafts);
    }
