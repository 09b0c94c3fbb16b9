-- A byte stored right before what was written last.
-- Assumes nothing.
use Rattle.std.proofs.Common.{◌≡◌, List, [], ◌∷◌, ℕ, ◌+◌, ◌<◌, length, set}
use Rattle.base.proofs.Part.{Put, put_before, over_one}

pub store_before : {xs ys t : List ℕ} {k : ℕ} → Put xs k t ys → (b at : ℕ) → k ≡ at + 1 → at < length ys → Put xs at (b ∷ t) (set ys at b)
store_before {xs} {ys} p b at e h = put_before p (b ∷ []) (set ys at b) at e (over_one ys at b h)
