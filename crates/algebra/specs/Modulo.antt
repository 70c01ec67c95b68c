-- The ring of residues modulo m: its elements are the numbers below m.
use Prim.Native.Nat.{ℕ, ◌+◌, ◌-◌, ◌*◌, ◌%◌, ◌<◌, Fin}
use Rattle.std.proofs.Common.{mod-lt}
use Rattle.algebra.specs.Ring.{Ops}

module _ (m : ℕ) (pos : 0 < m) where
  abbrev pub residue : ℕ → Fin m
  residue n = (n % m, mod-lt n pos)

  abbrev pub modulo : Ops
  modulo =
      record {
        F = Fin m;
        zero = residue 0;
        one = residue 1;
        nat = residue;
        add = λ a b. residue (a.0 + b.0);
        neg = λ a. residue (m - a.0);
        mul = λ a b. residue (a.0 * b.0);
      }
