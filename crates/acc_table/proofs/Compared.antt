-- Two tables are the same exactly where their bases with all bytes are.
use Rattle.std.proofs.Common.{◌≡◌, ◌∙◌, refl, sym, ap, arith, Bool, true, false, List, [], ◌∷◌}
use Rattle.std.specs.Prelude.{map, not, MatchBool}
use Rattle.std.proofs.lemmas.Bool.{true≢false}
use Rattle.std.proofs.lemmas.Bool.Decides.{nat_tests}
use Rattle.acc_base.specs.contracts.configs.ConfigPartialEq.TheImpl as config
use Rattle.acc_base.specs.Limits.{Limits}
use Rattle.acc_base.specs.Devices.{OneDevice, Whole, recorded_device, recorded_whole}
use Rattle.acc_base.specs.Calls.{Base, World, base_of}
use Rattle.acc_table.specs.Comparing.{IsSame}

limits_told : (l m : Limits) → l.number ≡ m.number → (config.ghosts).eq l m ≡ true → m ≡ l
limits_told l m number e = grind (arith, nat_tests)

-- limits that are not told apart
pub limits_same : (l m : Limits) → l.number ≡ 0 → m.number ≡ 0 → false ≡ not ((config.ghosts).eq l m) → m ≡ l
limits_same l m first second e = limits_told l m (first ∙ sym second) (go ((config.ghosts).eq l m) e)
  where
    go : (b : Bool) → false ≡ not b → b ≡ true
    go true h = refl
    go false h = absurd (true≢false (sym h))

devices_whole : (xs : List OneDevice) → map (recorded_device true) xs ≡ xs
devices_whole [] = refl
devices_whole (x ∷ xs) = ap (λ ys. x ∷ ys) (devices_whole xs)

whole_kept : (w : Whole) → recorded_whole true w ≡ w
whole_kept w = ap (λ (xs : List OneDevice). record { devices = xs; next = w.next; serial = w.serial; host = w.host }) (devices_whole w.devices)

pub told : (same : Bool) (a b : World) (x y : Base) → b.limits ≡ a.limits → x ≡ base_of true a.state 0 → y ≡ base_of true b.state 0 → MatchBool same (x ≡ y) (x ≡ y → ⊥) → MatchBool same (IsSame a b) (IsSame a b → ⊥)
told true a b x y limits p q e = record { limits = limits; state = sym (whole_kept b.state) ∙ (ap (λ (base : Base). base.state) (sym q ∙ (sym e ∙ p)) ∙ whole_kept a.state) }
told false a b x y limits p q differ = λ same. differ (p ∙ (ap (λ (w : Whole). base_of true w 0) (sym same.state) ∙ sym q))
