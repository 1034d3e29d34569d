-- The entries of a map of names as a finite map from names to arrays.
use Rattle.std.proofs.Common.{◌≡◌, ℕ, true, false, cond, List, [], ◌∷◌, Some, Option, refl, sym, ap, ◌∙◌}
use Rattle.std.specs.Ordering.{nat_cmp}
use Rattle.std.specs.declared.cmp.Ordering.{Ordering}
use Rattle.std.specs.Str.{bytes_eq}
use Rattle.std.specs.Cmp.Lexicographic.{slice_cmp, nat_list_cmp_total, nat_list_eq_equiv}
use Rattle.std.specs.FinMap.{find, get, insert, from_entries, get-from_entries, get-insert, same_map, slice_cmp-IsAntisymmetric, nat_cmp-IsAntisymmetric}
use Rattle.std.specs.HashMap.{HashMap, UpdatesBy}
use Rattle.std.specs.Map.{lookup, KeepsOthers}
use Rattle.std.proofs.lemmas.Map.Text.{is_eq-slice_cmp}
use Rattle.std.proofs.lemmas.Slice.Eq.{bytes_eq-Decides}
use Rattle.acc_read.specs.declared.arrays.Array.{Array}

-- the order of names
abbrev by_name : List ℕ → List ℕ → Ordering
by_name = slice_cmp nat_cmp

find_entry : (name : List ℕ) (entries : List (List ℕ × Array)) → find by_name name entries ≡ lookup (bytes_eq name) entries
find_entry name [] = refl
find_entry name (e ∷ entries) =
    ap (λ b. cond b (Some e.1) (find by_name name entries)) (is_eq-slice_cmp name e.0)
    ∙ ap (cond (bytes_eq name e.0) (Some e.1)) (find_entry name entries)

-- a look-up by a name
pub get-name : (name : List ℕ) (entries : List (List ℕ × Array)) → get (from_entries {R = by_name} entries) name ≡ lookup (bytes_eq name) entries
get-name name entries = get-from_entries nat_list_cmp_total entries name ∙ find_entry name entries

-- what is changed at one name alone
at_name : (old new : List ℕ → Option Array) (name : List ℕ) (value : Option Array) → new name ≡ value
    → ((q : List ℕ) → bytes_eq q name ≡ false → new q ≡ old q) → (q : List ℕ) → new q ≡ cond (bytes_eq q name) value (old q)
at_name old new name value here others q =
    elim (bytes_eq q name) as (λ b. bytes_eq q name ≡ b → new q ≡ cond b value (old q)) [
      | true ↦ λ e. ap new ((bytes_eq-Decides q name).0 e) ∙ here
      | false ↦ λ e. others q e
    ] refl

module _ {S : Type 0} (old new : HashMap (List ℕ) Array S) (name : List ℕ) (array : Array)
    (updates : UpdatesBy bytes_eq (bytes_eq name) old new (Some array)) where
  -- the other names of a map
  other_names : (q : List ℕ) → bytes_eq q name ≡ false → lookup (bytes_eq q) new.entries ≡ lookup (bytes_eq q) old.entries
  unfolding KeepsOthers
  other_names q apart =
      updates.3 (bytes_eq q) (λ x y. nat_list_eq_equiv.congr q x y)
      (λ k same. ap (bytes_eq q) (sym ((bytes_eq-Decides name k).0 same)) ∙ apart)

  -- a look-up behind the change
  looked_up : (q : List ℕ) → lookup (bytes_eq q) new.entries ≡ cond (bytes_eq q name) (Some array) (lookup (bytes_eq q) old.entries)
  looked_up q = at_name (λ x. lookup (bytes_eq x) old.entries) (λ x. lookup (bytes_eq x) new.entries) name (Some array) updates.1 other_names q

  -- a map with an array under a name
  pub from_entries-insert : from_entries {R = by_name} new.entries ≡ insert (from_entries {R = by_name} old.entries) name array
  from_entries-insert =
      same_map nat_list_cmp_total (slice_cmp-IsAntisymmetric nat_cmp-IsAntisymmetric) (from_entries new.entries) (insert (from_entries old.entries) name array)
      (λ q. get-name q new.entries
      ∙ looked_up q
      ∙ ap (λ b. cond b (Some array) (lookup (bytes_eq q) old.entries)) (sym (is_eq-slice_cmp q name))
      ∙ ap (cond _ (Some array)) (sym (get-name q old.entries))
      ∙ sym (get-insert nat_list_cmp_total (from_entries old.entries) name array q))
