-- A value that is written moves no key.
use Rattle.std.proofs.Common.{ℕ, ◌≡◌, ◌<◌, refl, Bool, true, false, cond, List, arith}
use Rattle.std.specs.Prelude.{◌==◌}
use Rattle.acc_base.proofs.Elements.{EachPair-map}
use Rattle.acc_ordered.specs.Listing.{KeyValue, KeysRise, value_written, with_value}

module _ {T : Type 0} where
  key-written : (key : ℕ) (value : T) (e : KeyValue T) → (value_written key value e).key ≡ e.key
  key-written key value e = go (e.key == key)
    where
      go : (b : Bool) → (cond b (record e { value = value }) e).key ≡ e.key
      go true = refl
      go false = refl

  pub rise-with_value : (key : ℕ) (value : T) (es : List (KeyValue T)) → KeysRise es → KeysRise (with_value key value es)
  rise-with_value key value es rising = EachPair-map (λ (e : KeyValue T) (f : KeyValue T). e.key < f.key) (value_written key value) es (λ e f less. omega (arith, key-written key value e, key-written key value f)) rising
