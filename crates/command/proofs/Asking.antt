-- What a query answers, by the rate that it finds; the totals in the unit of the diameter.
-- Assumes nothing.
use Prim.Native.Nat.{ℕ, ◌/◌, ◌<◌}
use mathlib.Core.Path.{◌≡◌, sym, ap}
use mathlib.Core.Bool.{true, false, ◌&&◌}
use native.Mathlib.Omega.{arith}
use lib.Dec.{ltb}
use borrow.Author.Tests.{ltb-true}
use Rattle.base.proofs.Choices.{and_left, and_right}
use Rattle.drive.specs.Syringe.{volume_unit, thousandth}
use Rattle.drive.specs.declared.syringe.Syringe.{Syringe}
use Rattle.drive.specs.declared.syringe.VolumeUnit.{VolumeUnit}
use Rattle.drive.proofs.Bounds.{thousandth_ge}
use Rattle.words.specs.declared.answers.Reply.TheVariants as reply
use Rattle.dispense.specs.declared.ledgers.Ledger.{Ledger}
use Rattle.command.specs.Queries.{ask_totals}
use Rattle.command.proofs.Choosing as choosing

pub shows_volume : (x : ℕ) (u v : VolumeUnit) → u ≡ v → reply.Volume x u ≡ reply.Volume x v
shows_volume x u v e = ap (reply.Volume x) e

pub ruleset asking = (shows_volume, choosing.choices)

-- ---- DIS
pub thousandth_positive : (u : VolumeUnit) (t : ℕ) → t ≡ thousandth u → 0 < t
thousandth_positive u t e = omega (arith, thousandth_ge u, e)

module _ (a b : ℕ) (e : (ltb a 10_000_000 && ltb b 10_000_000) ≡ true) where
  pub infused_fits : a < 4_294_967_296
  infused_fits = omega (arith, ltb-true a 10_000_000 (and_left (ltb a 10_000_000) (ltb b 10_000_000) e))

  pub withdrawn_fits : b < 4_294_967_296
  withdrawn_fits = omega (arith, ltb-true b 10_000_000 (and_right (ltb a 10_000_000) (ltb b 10_000_000) e))

module _
    (l : Ledger) (s : Syringe) (v : VolumeUnit) (t u : ℕ)
    (e : v ≡ volume_unit s) (p : t ≡ thousandth v) (q : u ≡ thousandth v)
  where
    pub shows_totals :
        (ltb (l.totals.infused / t) 10_000_000 && ltb (l.totals.withdrawn / u) 10_000_000) ≡ true
        → reply.Totals (l.totals.infused / t) (l.totals.withdrawn / u) v ≡ ask_totals l s
    unfolding ask_totals
    shows_totals k = rw (p, q, e) (sym (simp (rw (p, q, e) at k)))

    pub totals_too_long :
        (ltb (l.totals.infused / t) 10_000_000 && ltb (l.totals.withdrawn / u) 10_000_000) ≡ false → reply.OutOfRange ≡ ask_totals l s
    unfolding ask_totals
    totals_too_long k = sym (simp (rw (p, q, e) at k))
