-- R258 has an instance: S twice (R382) that is cut in its second record, and then whole. Group 4 of the first record, and its first characteristic,
-- are read before the second record is there, and are the same when it is.
-- Assumes nothing.
use mathlib.Core.Path.{◌≡◌, sym, ◌∙◌, ap}
use mathlib.Core.List.{[], ◌∷◌}
use mathlib.Core.Logic.{inl}
use Prim.Native.Nat.{ℕ, ◌≤◌}
use native.Mathlib.Omega.{arith}
use lib.IntN.{pos}
use Rattle.rules.specs.declared.Rules.{Rules}
use Rattle.base.specs.Pieces.{done}
use Rattle.characteristic.specs.NoReading
use Rattle.place.specs.RecordS.{twice_s}
use Rattle.place.proofs.GrownS.{cut_s, rest_s, cut_whole, cut_twice, cut_settled}
use Rattle.group.specs.declared.Characteristic.TheVariants.{Value}
use Rattle.group.specs.Characteristics.{reported, characteristic_at}
use Rattle.group.specs.Growth.{AnswersStay}
use Rattle.group.specs.Text.{read_at}
use Rattle.group.proofs.DamageInstance.{four_before}
use Rattle.group.proofs.Growth.{answers_stay}

module _ (ρ : Rules) where
  cut_stay : AnswersStay ρ cut_s rest_s 0
  cut_stay = answers_stay ρ cut_s rest_s 0 (inl (cut_settled ρ))

  module _ (room : ℕ) (h : 1 ≤ room) where
    -- before: by computation
    pub four_cut : read_at ρ cut_s 0 4 room ≡ done (pos 7250 ∷ [])
    four_cut = four_before ρ room h cut_s 0 305 (cut_twice ρ).first (cut_twice ρ).four

    -- after: by growth
    pub four_whole : read_at ρ twice_s 0 4 room ≡ done (pos 7250 ∷ [])
    four_whole = ap (λ s. read_at ρ s 0 4 room) (sym cut_whole) ∙ cut_stay.answers.groups 4 room ∙ four_cut

  pub characteristic_cut : characteristic_at ρ cut_s 0 1 ≡ Value (pos 7250)
  unfolding characteristic_at NoReading.is_no_reading
  characteristic_cut = ap (reported 1) (four_cut 49 (omega arith))

  pub characteristic_whole : characteristic_at ρ twice_s 0 1 ≡ Value (pos 7250)
  characteristic_whole = ap (λ s. characteristic_at ρ s 0 1) (sym cut_whole) ∙ cut_stay.answers.characteristics 1 ∙ characteristic_cut
