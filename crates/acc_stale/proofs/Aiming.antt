-- What an account tells of a pointer is so where it follows the device, and it follows what is left.
use Rattle.std.proofs.Common.{◌≡◌, ℕ, ◌<◌, ◌+◌, ◌-◌, min, [], Option, Some, None, unwrap_or, option_map, refl, sym, ap, ap₂, subst, ◌∙◌, arith}
use Rattle.std.specs.Prelude.{IsSome, ◌^◌}
use Rattle.acc_base.specs.declared.attachments.Aim.{Aim}
use Rattle.acc_base.specs.declared.attachments.Aim.TheVariants as aims
use Rattle.acc_base.specs.Limits.{Limits}
use Rattle.acc_base.specs.Ranges.{range_of}
use Rattle.acc_base.specs.Attachments.{IsBefore, count_at, with_count}
use Rattle.acc_base.specs.Records.{Records, State}
use Rattle.acc_base.specs.Steps.{records_aimed}
use Rattle.acc_base.specs.Accounts.{EachPair, AreRecordsSound}
use Rattle.acc_stale.specs.declared.accounts.Account.{Account}
use Rattle.acc_stale.specs.declared.items.Holder.{Holder}
use Rattle.acc_stale.specs.declared.known.Placed.{Placed}
use Rattle.acc_stale.specs.Events.{placed_in}
use Rattle.acc_stale.specs.Told.{IsAimTold}
use Rattle.acc_stale.specs.Accounts.{ToldBlock, told_at, attached_at, IsRecounted, waiting_in}
use Rattle.acc_stale.specs.Follows.{FollowsDevice, IsAimFit}
use Rattle.acc_stale.specs.Tells.{placed_at, pointer_held, count_left, LeavesOthers}
use Rattle.acc_stale.proofs.Attached.{count_in_block}
use Rattle.acc_stale.proofs.Followed.{count_told}
use Rattle.acc_stale.proofs.Telling.{IsTelling, mapped_told, placed_told, other_here, told_same}

-- a pointer and its block are those that are named
held_same : (pointer block p k : ℕ) → ◌≡◌ {A = Option (ℕ × ℕ)} (Some (pointer, block)) (Some (p, k)) → (p ≡ pointer) × (k ≡ block)
held_same pointer block p k e = (sym (ap (λ (o : Option (ℕ × ℕ)). unwrap_or (option_map (λ (x : ℕ × ℕ). x.0) o) 0) e), sym (ap (λ (o : Option (ℕ × ℕ)). unwrap_or (option_map (λ (x : ℕ × ℕ). x.1) o) 0) e))

-- the block of a pointer is mapped
fit_mapped : (aim : Aim) (p k : ℕ) (w : Records) → pointer_held aim ≡ Some (p, k) → IsAimFit aim w → IsSome (range_of k w.ranges)
fit_mapped aims.None p k w is fit = cc
fit_mapped (aims.New pointer block target) p k w is fit = let same : block ≡ k = sym (held_same pointer block p k is).1 in subst (λ (b : ℕ). IsSome (range_of b w.ranges)) same fit
fit_mapped (aims.Again pointer block) p k w is fit = let same : block ≡ k = sym (held_same pointer block p k is).1 in subst (λ (b : ℕ). IsSome (range_of b w.ranges)) same fit.0
fit_mapped (aims.Less pointer block) p k w is fit = let same : block ≡ k = sym (held_same pointer block p k is).1 in subst (λ (b : ℕ). IsSome (range_of b w.ranges)) same fit
fit_mapped (aims.Cleared pointer block) p k w is fit = let same : block ≡ k = sym (held_same pointer block p k is).1 in subst (λ (b : ℕ). IsSome (range_of b w.ranges)) same fit

-- so an account tells where it lies
pub aim_lost : (l : Limits) (d p k : ℕ) (aim : Aim) (a : Account) (s : State) → pointer_held aim ≡ Some (p, k) → placed_at d k a ≡ None → FollowsDevice d a s.records → AreRecordsSound l s.records → IsAimFit aim s.records → ⊥
aim_lost l d p k aim a s is none follows sound fit =
    let there : placed_at d k a ≡ Some (placed_in d k s) = placed_told d k a s (mapped_told l d k a s follows sound (fit_mapped aim p k s.records is fit)) in
    cc

-- and how often the pointer is attached
pub record IsAiming (d p k : ℕ) (h : Holder) (s : State) : Type 0 where
  pub device : h.placed.device ≡ d
  pub placed : h.placed ≡ placed_in h.placed.device k s
  pub count : h.count ≡ count_at k p s.records.attached

pub aiming_of : (l : Limits) (d p k : ℕ) (aim : Aim) (a : Account) (s : State) (h : Holder) → pointer_held aim ≡ Some (p, k) → placed_at d k a ≡ Some h.placed → h.count ≡ count_at k p (attached_at d k a) → FollowsDevice d a s.records → AreRecordsSound l s.records → IsAimFit aim s.records → IsAiming d p k h s
aiming_of l d p k aim a s h is there count follows sound fit =
    let telling : IsTelling d k a s = mapped_told l d k a s follows sound (fit_mapped aim p k s.records is fit) in
    let at : placed_at d k a ≡ Some (placed_in d k s) = placed_told d k a s telling in
    let lies : h.placed ≡ placed_in d k s = cc in
    let device : h.placed.device ≡ d = ap (λ (x : Placed). x.device) lies in
    record {
      device = device;
      placed = lies ∙ ap (λ x. placed_in x k s) (sym device);
      count = count ∙ ap (count_at k p) (ap (λ (o : Option ToldBlock). unwrap_or (option_map (λ (t : ToldBlock). t.attached) o) []) telling.is ∙ telling.attached) ∙ count_in_block k p s.records.attached;
    }

pub aim_told : (d p k : ℕ) (aim : Aim) (h : Holder) (s : State) → pointer_held aim ≡ Some (p, k) → IsAiming d p k h s → IsAimTold d (Some h) aim s
aim_told d p k aims.None h s is aiming = cc
aim_told d p k (aims.New pointer block target) h s is aiming = let same : k ≡ block = (held_same pointer block p k is).1 in (aiming.device, subst (λ (b : ℕ). h.placed ≡ placed_in h.placed.device b s) same aiming.placed)
aim_told d p k (aims.Again pointer block) h s is aiming = (aiming.device, tt)
aim_told d p k (aims.Less pointer block) h s is aiming =
    let same : k ≡ block = (held_same pointer block p k is).1 in
    let pointer_same : p ≡ pointer = (held_same pointer block p k is).0 in
    (aiming.device, (subst (λ (b : ℕ). h.placed ≡ placed_in h.placed.device b s) same aiming.placed, aiming.count ∙ ap₂ (λ b q. count_at b q s.records.attached) same pointer_same))
aim_told d p k (aims.Cleared pointer block) h s is aiming = let same : k ≡ block = (held_same pointer block p k is).1 in (aiming.device, subst (λ (b : ℕ). h.placed ≡ placed_in h.placed.device b s) same aiming.placed)

-- ---- the account follows what is left

recounted_follows : (d k p n : ℕ) (a b : Account) (w : Records) → IsRecounted d k p n a b → FollowsDevice d a w → EachPair IsBefore w.attached → FollowsDevice d b (record w { attached = with_count k p n w.attached })
recounted_follows d k p n a b w is follows rising = record {
  told = count_told d k p n (λ j. told_at d j a) (λ j. told_at d j b) w is.here (λ j e. is.others d j (other_here d k j e)) follows.told rising;
  queues = λ q low. ap (λ (x : _). waiting_in d q x.items) is.waiting ∙ follows.queues q low;
}

pub aim_follows : (d p k n : ℕ) (aim : Aim) (a b : Account) (h : Holder) (s : State) → pointer_held aim ≡ Some (p, k) → n ≡ count_left aim h.count → IsRecounted d k p n a b → IsAiming d p k h s → FollowsDevice d a s.records → EachPair IsBefore s.records.attached → IsAimFit aim s.records → FollowsDevice d b (records_aimed aim s.records)
aim_follows d p k n aims.None a b h s is left recounted aiming follows rising fit = cc
aim_follows d p k n (aims.New pointer block target) a b h s is left recounted aiming follows rising fit =
    let same : k ≡ block = (held_same pointer block p k is).1 in
    let pointer_same : p ≡ pointer = (held_same pointer block p k is).0 in
    subst (λ xs. FollowsDevice d b (record s.records { attached = xs })) (ap (λ x. with_count k p x s.records.attached) left ∙ ap₂ (λ x y. with_count x y 1 s.records.attached) same pointer_same) (recounted_follows d k p n a b s.records recounted follows rising)
aim_follows d p k n (aims.Again pointer block) a b h s is left recounted aiming follows rising fit =
    let same : k ≡ block = (held_same pointer block p k is).1 in
    let pointer_same : p ≡ pointer = (held_same pointer block p k is).0 in
    let count : h.count ≡ count_at block pointer s.records.attached = aiming.count ∙ ap₂ (λ x y. count_at x y s.records.attached) same pointer_same in
    let rises : n ≡ count_at block pointer s.records.attached + 1 = left ∙ risen h.count (count_at block pointer s.records.attached) count fit.1 in
    subst (λ xs. FollowsDevice d b (record s.records { attached = xs })) (ap (λ x. with_count k p x s.records.attached) rises ∙ ap₂ (λ x y. with_count x y (count_at block pointer s.records.attached + 1) s.records.attached) same pointer_same) (recounted_follows d k p n a b s.records recounted follows rising)
  where
    risen : (m c : ℕ) → m ≡ c → c + 1 < 2 ^ 64 → min (m + 1) (2 ^ 64 - 1) ≡ c + 1
    risen m c e low = omega (arith, e, low)
aim_follows d p k n (aims.Less pointer block) a b h s is left recounted aiming follows rising fit =
    let same : k ≡ block = (held_same pointer block p k is).1 in
    let pointer_same : p ≡ pointer = (held_same pointer block p k is).0 in
    let falls : n ≡ count_at block pointer s.records.attached - 1 = left ∙ ap (λ x. x - 1) (aiming.count ∙ ap₂ (λ x y. count_at x y s.records.attached) same pointer_same) in
    subst (λ xs. FollowsDevice d b (record s.records { attached = xs })) (ap (λ x. with_count k p x s.records.attached) falls ∙ ap₂ (λ x y. with_count x y (count_at block pointer s.records.attached - 1) s.records.attached) same pointer_same) (recounted_follows d k p n a b s.records recounted follows rising)
aim_follows d p k n (aims.Cleared pointer block) a b h s is left recounted aiming follows rising fit =
    let same : k ≡ block = (held_same pointer block p k is).1 in
    let pointer_same : p ≡ pointer = (held_same pointer block p k is).0 in
    subst (λ xs. FollowsDevice d b (record s.records { attached = xs })) (ap (λ x. with_count k p x s.records.attached) left ∙ ap₂ (λ x y. with_count x y 0 s.records.attached) same pointer_same) (recounted_follows d k p n a b s.records recounted follows rising)

-- other devices
pub recount_others : (d k p n : ℕ) (a b : Account) → IsRecounted d k p n a b → LeavesOthers d a b
recount_others d k p n a b is e w other follows = record {
  told = told_same e (λ j. told_at e j a) (λ j. told_at e j b) w (λ j. is.others e j (rw other refl)) follows.told;
  queues = λ q low. ap (λ (x : _). waiting_in e q x.items) is.waiting ∙ follows.queues q low;
}
