use Rattle.std.proofs.Common.{◌≡◌, ◌+◌, ◌-◌, ◌*◌, ◌≤◌, arith, rules, subst}
use Rattle.tp_model.specs.declared.types.Limits.{Limits}
use Rattle.tp_model.specs.declared.types.TheConstants.{BLOCK_ROWS}
use Rattle.tp_model.specs.Steps.{rows_of}
use Rattle.tp_manager.specs.Bounds.{drawn_steps, find_steps, listing_steps, seek_steps}
use Rattle.tp_manager.proofs.Accounts.RoundAccounts.{account_round, cancel_round, gather_round}
use Rattle.tp_manager.proofs.bounds.round_bounds.Goals as goal

-- a listing that begins at no mark
listing_round : (l : Limits) → listing_steps l ≤ rows_of l * 7 + 3 * l.parts + 3 * drawn_steps l.spare
listing_round l = let all : l.parts * find_steps l + (3 * drawn_steps l.spare + BLOCK_ROWS * l.spare * seek_steps) ≤ rows_of l * 7 + 3 * l.parts + 3 * drawn_steps l.spare = search rules in
    let none : BLOCK_ROWS * l.spare ≡ BLOCK_ROWS * l.spare - 0 = omega arith in
    subst (λ n. l.parts * find_steps l + (3 * drawn_steps l.spare + n * seek_steps) ≤ rows_of l * 7 + 3 * l.parts + 3 * drawn_steps l.spare) none all

pub returns : goal.returns
returns c = record {
  round = λ l. record {
    submit = search rules;
    claim = search rules;
    claim_next = search rules;
    claim_id = search rules;
    claim_left = λ lows. search rules;
    listing_left = λ lows. search rules;
    commit = search rules;
    abort = search rules;
    kill = search rules;
    requeue = search rules;
    release = search rules;
    collect = search rules;
    cancel = cancel_round l;
    read = search rules;
    reply = search rules;
    family = search rules;
    next_error = listing_round l;
    meet = search rules;
    follow = search rules;
    gather = gather_round l;
    account = account_round l;
  };
}
