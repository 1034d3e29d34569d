-- The pointer of an item as it is told: what is known then is what the definition says.
use Rattle.std.proofs.Common.{◌≡◌, ◌≢◌, ℕ, true, false, ◌==◌, if◌then◌else◌, refl, sym, ap, subst, ◌∙◌, arith}
use Rattle.std.proofs.lemmas.Bool.Decides.{nat_tests}
use Rattle.acc_base.specs.declared.attachments.Aim.{Aim}
use Rattle.acc_base.specs.declared.attachments.Aim.TheVariants as aims
use Rattle.acc_base.specs.Attachments.{pointer_at, count_at}
use Rattle.acc_base.specs.Records.{State}
use Rattle.acc_stale.specs.declared.items.Holder.{Holder}
use Rattle.acc_stale.specs.Known.{Known, pointer_aimed, pointer_left}
use Rattle.acc_stale.specs.Events.{placed_in, mapped_at, known_aimed}
use Rattle.acc_stale.specs.Told.{IsHolder, LeavesPointer}

-- attached
new_there : (h : Holder) (pointer block target : ℕ) (s : State) (k : Known) → IsHolder h (aims.New pointer block target) s → pointer_aimed (mapped_at h.placed (pointer_at pointer)) k ≡ known_aimed h.placed.device (aims.New pointer block target) s k
unfolding known_aimed
new_there h pointer block target s k told = ap (λ p. pointer_aimed (mapped_at p (pointer_at pointer)) k) told

-- detached, for the last time or not
left_there : (h : Holder) (pointer block : ℕ) (s : State) (k : Known) → h.placed ≡ placed_in h.placed.device block s → pointer_left (mapped_at h.placed (pointer_at pointer)) k ≡ pointer_left (mapped_at (placed_in h.placed.device block s) (pointer_at pointer)) k
left_there h pointer block s k there = ap (λ p. pointer_left (mapped_at p (pointer_at pointer)) k) there

last_there : (h : Holder) (pointer block : ℕ) (s : State) (k : Known) → h.count ≡ 1 → IsHolder h (aims.Less pointer block) s → pointer_left (mapped_at h.placed (pointer_at pointer)) k ≡ known_aimed h.placed.device (aims.Less pointer block) s k
unfolding known_aimed
last_there h pointer block s k one told =
    let last : (count_at block pointer s.records.attached == 1) ≡ true = grind (arith, nat_tests, one, told.1) in
    left_there h pointer block s k told.0
    ∙ sym (ap (λ b. if b then pointer_left (mapped_at (placed_in h.placed.device block s) (pointer_at pointer)) k else k) last)

less_there : (h : Holder) (pointer block : ℕ) (s : State) (k : Known) → h.count ≢ 1 → IsHolder h (aims.Less pointer block) s → k ≡ known_aimed h.placed.device (aims.Less pointer block) s k
unfolding known_aimed
less_there h pointer block s k more told =
    let kept : (count_at block pointer s.records.attached == 1) ≡ false = grind (arith, nat_tests, more, told.1) in
    sym (ap (λ b. if b then pointer_left (mapped_at (placed_in h.placed.device block s) (pointer_at pointer)) k else k) kept)

cleared_there : (h : Holder) (pointer block : ℕ) (s : State) (k : Known) → IsHolder h (aims.Cleared pointer block) s → pointer_left (mapped_at h.placed (pointer_at pointer)) k ≡ known_aimed h.placed.device (aims.Cleared pointer block) s k
unfolding known_aimed
cleared_there h pointer block s k told = left_there h pointer block s k told

-- neither
pub pointer_kept : (d : ℕ) (aim : Aim) (s : State) (k : Known) → LeavesPointer aim → k ≡ known_aimed d aim s k
unfolding known_aimed
pointer_kept d aims.None s k leaves = refl
pointer_kept d (aims.New pointer block target) s k leaves = absurd leaves
pointer_kept d (aims.Again pointer block) s k leaves = refl
pointer_kept d (aims.Less pointer block) s k leaves = absurd leaves
pointer_kept d (aims.Cleared pointer block) s k leaves = absurd leaves

-- ---- the same of what an item did

-- what is left to show of a pointer's bytes
abbrev pub Follows : Holder → Aim → State → Known → Known → Type 0
Follows h aim s k r = IsHolder h aim s → r ≡ known_aimed h.placed.device aim s k

pub new_told : (h : Holder) (aim : Aim) (pointer block target : ℕ) (s : State) (k r : Known) → aim ≡ aims.New pointer block target → r ≡ pointer_aimed (mapped_at h.placed (pointer_at pointer)) k → Follows h aim s k r
new_told h aim pointer block target s k r e is = subst (λ (a : Aim). Follows h a s k r) (sym e) (λ told. is ∙ new_there h pointer block target s k told)

pub last_told : (h : Holder) (aim : Aim) (pointer block : ℕ) (s : State) (k r : Known) → aim ≡ aims.Less pointer block → h.count ≡ 1 → r ≡ pointer_left (mapped_at h.placed (pointer_at pointer)) k → Follows h aim s k r
last_told h aim pointer block s k r e one is = subst (λ (a : Aim). Follows h a s k r) (sym e) (λ told. is ∙ last_there h pointer block s k one told)

pub less_told : (h : Holder) (aim : Aim) (pointer block : ℕ) (s : State) (k : Known) → aim ≡ aims.Less pointer block → h.count ≢ 1 → Follows h aim s k k
less_told h aim pointer block s k e more = subst (λ (a : Aim). Follows h a s k k) (sym e) (λ told. less_there h pointer block s k more told)

pub cleared_told : (h : Holder) (aim : Aim) (pointer block : ℕ) (s : State) (k r : Known) → aim ≡ aims.Cleared pointer block → r ≡ pointer_left (mapped_at h.placed (pointer_at pointer)) k → Follows h aim s k r
cleared_told h aim pointer block s k r e is = subst (λ (a : Aim). Follows h a s k r) (sym e) (λ told. is ∙ cleared_there h pointer block s k told)

pub none_told : (d : ℕ) (aim : Aim) (s : State) (k : Known) → aim ≡ aims.None → k ≡ known_aimed d aim s k
none_told d aim s k e = pointer_kept d aims.None s k tt ∙ sym (ap (λ (a : Aim). known_aimed d a s k) e)

pub again_told : (d : ℕ) (aim : Aim) (pointer block : ℕ) (s : State) (k : Known) → aim ≡ aims.Again pointer block → k ≡ known_aimed d aim s k
again_told d aim pointer block s k e = pointer_kept d (aims.Again pointer block) s k tt ∙ sym (ap (λ (a : Aim). known_aimed d a s k) e)
