-- What a verdict tells: 1 exactly if the call is not turned back and the pair keeps.
use mathlib.Core.Path.{◌≡◌, refl}
use mathlib.Core.Bool.{Bool, true, false, cond, ◌&&◌}
use Prim.Native.Nat.{ℕ, zero, suc}
use lib.Dec.{eqb, eqb-suc-zero}
use Rattle.std.specs.Prelude.{Ok}
use Rattle.refusals.specs.Refusal.{unless, refused}
use Rattle.answers.specs.Verdict.{keeps_of, judged}

pub keeps_of-unless : (n : ℕ) (b : Bool) → keeps_of (unless n refused (Ok (judged b))) ≡ cond (eqb n 0 && b) 1 0
keeps_of-unless zero true = refl
keeps_of-unless zero false = refl
keeps_of-unless (suc n) b = rw (eqb-suc-zero n)
