-- `run::number_by` meets its contract. The invariant: the number so far is that of the columns so far, by whatever they are worth.
use Rattle.std.proofs.Common.{◌≡◌, ℕ, ◌+◌, ◌*◌, ◌^◌, ◌≤◌, map, take}
use Rattle.base.specs.Digits.{number_of}
use Rattle.run.proofs.number_by.Given as goal

abbrev pub invariant-loop-b : goal.invariant-loop-b
invariant-loop-b g l =
    record {
      room : l.n + 29 ≤ 29 * 10 ^ l.b-index;
      number : (h : ℕ → ℕ) → ((b n : ℕ) → goal.F-post g l.worth b n → n ≡ h b) → l.n ≡ number_of (map h (take l.b-index l.s));
    }
