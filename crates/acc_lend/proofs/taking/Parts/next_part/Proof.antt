use Rattle.std.proofs.Common.{◌≡◌, ◌≤◌, ◌<◌, ◌^◌, List, [], ◌∷◌, ◌++◌, length, refl, sym, w64, MatchOption}
use Rattle.std.proofs.raw_atomic.Walks.{proved}
use base.Logic.{id⊢, emp}
use base.Fml.{ftrue, flft}
use mir.Syntax.{named}
use mir.Val.{Val}
use contract.Monad.{fact, fact_i}
use contract.Running.{tables}
use types.Kit.{‵, raw, ◌⊛◌, some, later, ◌$◌, ◌∵◌, !, qed, done, move, keep, drop, use1, use2, split, join, fsplit, fjoin, fpick, feq_l, pick, await, rewrite, suffices, group, updating, now, use0}
use types.Part.{whole, sub, agg}
use types.Run.{enter, of_opd, addr, stop, fld, hop, from, no_more, and_then, returns}
use types.ByLocal.{alloc_all, pass_all, free_all, look_at, get, get_in, look_in_at, sets, lands_as}
use denote.Builtin.{u8, usize}
use denote.Exit.{no}
use denote.Laws.{shows, Lawful}
use denote.Plain.{uint_Makes, uint_vals, uint_Lawful}
use denote.Slice.{MutSlice, ShrSlice, mut_slice_vals, shr_slice_vals, mut_slice_Tells, shr_slice_Tells, mut_slice_Lawful, shr_slice_Lawful}
use denote.Signature.{named_lft, type_at}
use denote.Steps.{nothing, owned, heard, peeks}
use denote.Struct.Struct.{Struct-Lawful}
use denote.Triple.Call.{calls_at}
use denote.Triple.Clauses.{lasts, Lasts}
use denote.Triple.Spec.{triple_of}
use denote.Triple.Walked.{Stays, walk_of, stay_dropped, ends_at}
use denote.Triple.Table.{framed}
use denote.Enum.Enum.{Enum-Lawful}
use denote.Enum.Declared.{shape as enum_shape}
use denote.Struct.Declared.{shape as struct_shape}
use denote.Struct.Tuple.{Tuple, tuple_type}
use denote.Follow.{follows_both_if}
use Rattle.acc_lend.specs.Parts.{bytes_left, cuts_left, next_place, ghost_names, IsNext}
use Rattle.std.specs.Option.{ghost_names_of}
use Rattle.acc_lend.proofs.Taken.{next_fits, rest_fits, is_next}
use Rattle.std.specs.contracts.option.Option as O
use Rattle.std.specs.Borrow.{LendsBothIf, Array}
use Rattle.acc_lend.specs.Slices.{IsCut}
use Rattle.acc_lend.specs.Taken.{HasLater, IsHanded}
use Rattle.acc_lend.specs.contracts.taking.Parts.next_part as f
use Rattle.acc_lend.specs.contracts.taking.Parts.{the_row as R, the_type as PT}
use Rattle.acc_lend.proofs.taking.Parts.TheLaws.{lowers, lowered}
use Rattle.acc_lend.proofs.taking.Parts.next_part.Statement.{statement}
use Rattle.acc_lend.proofs.taking.Parts.next_part.Code as code
use Rattle.acc_lend.specs.contracts.slices.cut as cut
use Rattle.acc_lend.proofs.slices.cut.Met.{met as cut_met}
use Rattle.acc_lend.specs.contracts.taking.Parts.handed as handed
use Rattle.acc_lend.proofs.taking.Parts.handed.Met.{met as handed_met}

-- `next_part` takes `self` apart and makes two calls. `cut` says of its pair that the bytes that are left end as those
-- of the part and of the parts after it. `handed` keeps the names of the pair's borrows.

abbrev stayed : Stays f.ended.signature.params f.ended.kept
stayed = (stay_dropped _ no, tt)

pub next_part_spec : {M : Type 1} → statement M
next_part_spec 𝓤 𝓛 𝓜 𝓡 wired =
    let c = f.clauses 𝓛 𝓜.mem 𝓡.returns in let W = walk_of 𝓛 f.ended stayed c in
    proved 𝓛 f.ended stayed c 𝓜 𝓡 ((λ κs x w vs ok. qed 𝓛 (‵ ftrue ∷ []) ∵ updating ! $ now ! $ nothing ! $ fjoin ! $ done !), tt)
    f.Key.name code.function (code.unfolded 𝓤 𝓛.H 𝓜 𝓡 wired)
    (λ κs. ((λ d. lowered d ∷ []), tt)) (λ κs. ((lowers (named_lft 1 0 tt κs)).val_is, tt))
    (λ κs qs bounds a _ are.
    let κ = κs.0 in let q = qs.0 in let p = a.0 in
    let Mut = MutSlice (named 0) κ u8 in let Shr = ShrSlice (named 0) κ usize in
    qed 𝓛 (((‵ (flft κ q) ⊛ ‵ ftrue) ⊛ ‵ ((R (named_lft 1 0 tt κs)).own_val p (lowered p ∷ [])) ⊛ ‵ ftrue)
    ∷ ‵ ftrue ∷ []) ∵
    split ! $ split ! $ move ! (2 ∷ []) $ split ! $ keep ! (0 ∷ 2 ∷ []) $
    -- [self; the token]: what `self` is, field by field
    fpick ! (λ vss. fsplit ! $ feq_l ! (λ e.
    fsplit ! $ peeks ! Mut _ (shows 𝓛 Mut) p.rest vss.0 (λ rest_is. rewrite ! 0 (λ (us : List Val). ‵ (Mut.own_val p.rest us)) (mut_slice_Tells (named 0) κ u8 p.rest vss.0 rest_is) refl $
    move ! (1 ∷ []) $ fsplit ! $ peeks ! usize _ (shows 𝓛 usize) p.at vss.1.0 (λ at_is. drop ! $
    fsplit ! $ peeks ! usize _ (shows 𝓛 usize) p.len vss.1.1.0 (λ len_is. drop ! $
    fsplit ! $ peeks ! Shr _ (shows 𝓛 Shr) p.later vss.1.1.1.0 (λ later_is. rewrite ! 0 (λ (us : List Val). ‵ (Shr.own_val p.later us)) (shr_slice_Tells (named 0) κ usize p.later vss.1.1.1.0 later_is) refl $
    move ! (1 ∷ []) $ drop ! $
    -- [later; rest; the token]
    let rest_short : length p.rest.now < 2 ^ 64 = rest_is.0.1.0 in
    let later_short : length p.later.now < 2 ^ 64 = later_is.0.1.0 in
    let at_short : p.at < 2 ^ 64 = at_is.1 in
    let len_short : p.len < 2 ^ 64 = len_is.1 in
    enter ! _ _ _ _ _ $
    alloc_all ! (λ l. pass_all ! refl ((tt, ((tt, (record { fits = rest_short }, tt)), (record { fits = at_short }, (record { fits = len_short }, ((tt, (record { fits = later_short }, tt)), tt))))), tt) $
    -- the fields, each into a local of its own, and the slice borrowed again
    sets ! (of_opd ! (get_in ! (fld ! refl (stop !)) (sub ! 0 refl (whole !)))) refl (tt, (tt, (record { fits = rest_short }, tt))) $
    sets ! (of_opd ! (get_in ! (fld ! refl (stop !)) (sub ! 1 refl (whole !)))) refl (tt, record { fits = at_short }) $
    sets ! (of_opd ! (get_in ! (fld ! refl (stop !)) (sub ! 2 refl (whole !)))) refl (tt, record { fits = len_short }) $
    sets ! (of_opd ! (get_in ! (fld ! refl (stop !)) (sub ! 3 refl (whole !)))) refl (tt, (tt, (record { fits = later_short }, tt))) $
    sets ! (addr ! (from ! (fld ! refl (hop ! (look_in_at ! 2 (sub ! 0 refl (whole !))) (stop !))))) refl (tt, tt) $
    sets ! (agg ! (and_then ! (get ! refl) (and_then ! (get_in ! (fld ! refl (stop !)) (sub ! 1 refl (whole !))) (no_more !)))) refl (tt, (tt, (record { fits = rest_short }, tt))) $
    -- the call of `cut`
    let Cut = triple_of 𝓛 cut.signature (cut.spec 𝓛 𝓜.mem 𝓡.returns) in
    let cut_call : Cut.Ghost = ((κs, qs, tt, (p.rest, (p.len, tt)), (mut_slice_vals p.rest, (uint_vals w64 p.len, tt))), tt) in
    let short : p.len ≤ length p.rest.now = next_fits p.len p.later.now _ p.sizes in
    use0 𝓛 (raw (fact 𝓤 (p.len ≤ length p.rest.now))) (fact_i 𝓤 (p.len ≤ length p.rest.now) (emp 𝓤) short) $
    nothing ! $ owned ! usize _ (uint_Makes 𝓛 w64) p.len _ (refl, len_short) $ join ! $ move ! (3 ∷ 0 ∷ []) $ join ! $
    nothing ! $ move ! (4 ∷ 0 ∷ []) $ join ! $ join ! $ use2 𝓛 (raw (Cut.pre cut_call)) (id⊢ 𝓤 _) $
    calls_at ! (framed 𝓤 𝓛.H 𝓜 (tables 𝓤 𝓛.H 𝓜 𝓡 𝓡.env)) Cut (cut_met 𝓤 𝓛 𝓜 𝓡 (code.calls-acc_lend::slices::cut 𝓡.env wired)) cut_call
    (and_then ! (get ! refl) (and_then ! (get ! refl) (no_more !))) (λ v.
    let Pair = type_at cut.signature.result κs in
    use1 𝓛 (later (some (λ (r : Pair.Denot). ((‵ (flft κ q) ⊛ ‵ ftrue) ⊛ ‵ (Pair.own_val r (v ∷ []))) ⊛
    some (λ (ws : Unit {0} × (Unit {0} × Unit {0})). ‵ (lasts cut.ended κs cut_call.0.3 ws) ⊛
    (raw (fact 𝓤 (IsCut p.len p.rest.now r))
    ⊛ ‵ (LendsBothIf (Array u8 0) (Array u8 0) (Array u8 0) p.rest r ◌++◌ p.rest.now)))))) (id⊢ 𝓤 _) $
    await ! tt $ pick ! (λ r. split ! $ split ! $ split ! $
    move ! (3 ∷ []) $ pick ! (λ ws. split ! $ drop ! $ split ! $ heard ! _ (λ cut_is.
    -- [what follows; the token; nothing; the pair; later]
    move ! (3 ∷ []) $ peeks ! Pair _ (shows 𝓛 Pair) r (v ∷ []) (λ pair_val.
    let pair_laws : Lawful 𝓛 (Tuple (Mut ∷ Mut ∷ [])) = record { typed = λ x vs is. (Struct-Lawful 𝓛 (struct_shape (tuple_type (Mut ∷ Mut ∷ []))) (mut_slice_Lawful 𝓛 (named 0) κ u8, (mut_slice_Lawful 𝓛 (named 0) κ u8, tt))).typed ((tuple_type (Mut ∷ Mut ∷ [])).to x) vs is } in
    let pair_is = (Enum-Lawful 𝓛 (enum_shape (O.the_type (Tuple (Mut ∷ Mut ∷ [])))) tt (tt, ((pair_laws, tt), tt))).typed _ (v ∷ []) pair_val in
    lands_as ! refl refl pair_is.0 $
    -- [the pair; what follows; the token; nothing; later]
    -- the call of `handed`
    let Handed = triple_of 𝓛 handed.signature (handed.spec 𝓛 𝓜.mem 𝓡.returns) in
    let handed_call : Handed.Ghost = ((κs, qs, tt, (r, (p.at, (p.len, (p.later, tt)))), (v ∷ [], (uint_vals w64 p.at, (uint_vals w64 p.len, (shr_slice_vals p.later, tt))))), tt) in
    let After = HasLater p.at p.len p.later.now r in
    use0 𝓛 (raw (fact 𝓤 After)) (fact_i 𝓤 After (emp 𝓤) (rest_fits r p.len p.at p.later.now p.rest.now cut_is p.sizes p.capped p.filled)) $
    nothing ! $ move ! (6 ∷ 0 ∷ []) $ join ! $
    owned ! usize _ (uint_Makes 𝓛 w64) p.len _ (refl, len_short) $ join ! $ owned ! usize _ (uint_Makes 𝓛 w64) p.at _ (refl, at_short) $ join ! $
    move ! (2 ∷ 0 ∷ []) $ join ! $ move ! (3 ∷ 4 ∷ []) $ join ! $ join ! $ use2 𝓛 (raw (Handed.pre handed_call)) (id⊢ 𝓤 _) $
    calls_at ! (framed 𝓤 𝓛.H 𝓜 (tables 𝓤 𝓛.H 𝓜 𝓡 𝓡.env)) Handed (handed_met 𝓤 𝓛 𝓜 𝓡 (code.calls-acc_lend::taking::Parts::handed 𝓡.env wired)) handed_call
    (and_then ! (get ! refl) (and_then ! (get ! refl) (and_then ! (get ! refl) (and_then ! (get ! refl) (no_more !))))) (λ v'.
    let Res = type_at handed.signature.result κs in
    use1 𝓛 (later (some (λ (s : Res.Denot). ((‵ (flft κ q) ⊛ ‵ ftrue) ⊛ ‵ (Res.own_val s (v' ∷ []))) ⊛
    some (λ (us : Lasts handed.ended κs handed_call.0.3). ‵ (lasts handed.ended κs handed_call.0.3 us) ⊛
    (raw (fact 𝓤 (ghost_names s ≡ ghost_names_of r)) ⊛ raw (fact 𝓤 (IsHanded p.at p.len p.later.now r s))))))) (id⊢ 𝓤 _) $
    await ! tt $ pick ! (λ s. split ! $ split ! $ move ! (2 ∷ []) $ pick ! (λ us. split ! $ drop ! $ split ! $ heard ! _ (λ names. heard ! _ (λ handed_is.
    -- [the tokens; the result; what follows]
    move ! (1 ∷ []) $ peeks ! Res _ (shows 𝓛 Res) s (v' ∷ []) (λ next_val.
    let P = PT (named_lft 1 0 tt κs) in
    let Next = usize ∷ Mut ∷ R (named_lft 1 0 tt κs) ∷ [] in
    let parts_laws : Lawful 𝓛 (R (named_lft 1 0 tt κs)) = record { typed = λ y vs is. (Struct-Lawful 𝓛 (struct_shape P) (mut_slice_Lawful 𝓛 (named 0) κ u8, (uint_Lawful 𝓛 w64, (uint_Lawful 𝓛 w64, (shr_slice_Lawful 𝓛 (named 0) κ usize, tt))))).typed (P.to y) vs is } in
    let next_laws : Lawful 𝓛 (Tuple Next) = record { typed = λ y vs is. (Struct-Lawful 𝓛 (struct_shape (tuple_type Next)) (uint_Lawful 𝓛 w64, (mut_slice_Lawful 𝓛 (named 0) κ u8, (parts_laws, tt)))).typed ((tuple_type Next).to y) vs is } in
    let next_is = (Enum-Lawful 𝓛 (enum_shape (O.the_type (Tuple Next))) tt (tt, ((next_laws, tt), tt))).typed _ (v' ∷ []) next_val in
    lands_as ! refl refl next_is.0 $
    -- what it returns
    returns ! (look_at ! 0 refl) $ free_all ! refl $
    let y : W.Ghost = ((κs, qs, bounds, a, (lowered p ∷ [], tt)), tt) in
    let IsAnswer = MatchOption s (cuts_left p ≡ []) (IsNext (cuts_left p) (next_place p) (bytes_left p)) in
    let answer : IsAnswer = is_next p.len p.at p.later.now p.rest.now r s short cut_is handed_is in
    rewrite ! 2 (λ m. ‵ (follows_both_if (Array u8 0) (Array u8 0) (Array u8 0) p.rest.ghost_name m ◌++◌ p.rest.now)) (sym names) refl $
    suffices ! _ (ends_at 𝓛 f.ended stayed c y v' s ((tt, tt), tt) (tt, tt)) $
    use0 𝓛 (raw (fact 𝓤 IsAnswer)) (fact_i 𝓤 IsAnswer (emp 𝓤) answer) $ nothing ! $ nothing ! $ join ! $
    move ! (3 ∷ 0 ∷ 2 ∷ 1 ∷ 4 ∷ []) $ group ! 3 $ done !)))))))))))))))))))
