-- R9: a record that the strict rule rewrites with 0 is rewritten so under each that counts alike: as many bytes, the same next place, the same
-- text. What is canonical for one of two such rules is so for the other.
-- Assumes nothing.
use mathlib.Core.Path.{◌≡◌, sym, ◌∙◌, ap, ap₂, subst}
use mathlib.Core.List.{List}
use Prim.Native.Nat.{ℕ}
use native.Mathlib.Omega.{arith}
use Rattle.rules.specs.declared.LineEnds.TheVariants.{Strict}
use Rattle.rules.specs.declared.Rules.{Rules}
use Rattle.base.specs.Pieces.{cells_got}
use Rattle.place.specs.Placing.{counts_at}
use Rattle.whole.proofs.Ends.{strict_placed, strict_counts, strict_cells, strict_group, strict_turn}
use Rattle.writing.specs.Text.{record_text, record_bytes}
use Rattle.date.specs.Due.{IsDate}
use Rattle.writing.proofs.Ends.{canonical_record}
use Rattle.writing.proofs.SameCounting.{record_text_same, record_bytes_same, date_letters_same}
use Rattle.rewriting.specs.Canonical.{RightRecord, CanonicalRecords, none, more}
use Rattle.rewriting.specs.Due.{RewrittenDue}
use Rattle.rewriting.specs.Record.{rewriting_of, text_at, rewritten_with}
use Rattle.rewriting.proofs.Due.{first_due}
use Rattle.std.specs.Prelude.{Ok}

module _ (σ ρ : Rules) (only : σ.ends ≡ Strict) (alike : σ.counting ≡ ρ.counting) (s : List ℕ) (at cells room bytes next : ℕ) (done : rewriting_of σ s at cells room ≡ Ok (rewritten_with bytes next)) where
  due : RewrittenDue σ s at cells room bytes next
  due = (first_due σ s at cells room (Ok (rewritten_with bytes next))).0 done

  counts : counts_at ρ s at ≡ counts_at σ s at
  counts = strict_counts σ ρ only alike s at due.roomy.placed due.groups

  bytes_there : record_bytes ρ (counts_at ρ s at) ≡ record_bytes σ (counts_at σ s at)
  bytes_there = ap (record_bytes ρ) counts ∙ record_bytes_same ρ σ (sym alike) (counts_at σ s at)

  pub strict_rewriting : rewriting_of ρ s at cells room ≡ Ok (rewritten_with bytes next)
  strict_rewriting =
      (first_due ρ s at cells room (Ok (rewritten_with bytes next))).1 record {
        roomy =
            record {
              placed = strict_placed σ ρ only alike s at due.roomy.placed due.groups;
              text_fits = omega (arith, bytes_there, due.roomy.text_fits);
              cells_fit = omega (arith, strict_cells σ ρ only alike s at due.roomy.placed due.groups, due.roomy.cells_fit);
            };
        groups = λ g low high. let d = due.groups g low high in record { cells = d.cells; reads = strict_group σ ρ only alike s at due.roomy.placed due.groups g low high ∙ d.reads };
        written = bytes_there ∙ due.written;
      }

  pub strict_text : text_at ρ s at ≡ text_at σ s at
  strict_text =
      ap₂ (record_text ρ) counts (ap cells_got (strict_turn σ ρ only alike s at due.roomy.placed due.groups))
      ∙ record_text_same ρ σ (sym alike) (counts_at σ s at) _

-- what is canonical for one of two rules that count alike is so for the other: it has no line end that one of them refuses
module _ (ρ σ : Rules) (alike : ρ.counting ≡ σ.counting) where
  abbrev pub right_record_same : {x : List ℕ} → RightRecord ρ x → RightRecord σ x
  right_record_same {x} r =
      record {
        ns = r.ns;
        cs = r.cs;
        canonical = canonical_record ρ σ alike r.ns x r.cs r.canonical;
        release = r.release;
        rules = r.rules;
        date = r.date;
        dated = subst (λ l. IsDate l r.date) (date_letters_same ρ σ alike r.ns r.cs) r.dated;
      }

  pub canonical_records_same : (s : List ℕ) → CanonicalRecords ρ s → CanonicalRecords σ s
  canonical_records_same s none = none
  canonical_records_same s (more x {y} r few rest) = more x (right_record_same r) few (canonical_records_same y rest)
