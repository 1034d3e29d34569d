-- `take` asks whether the pointer is null, and else the parts own what the handle owned.
use Rattle.std.proofs.Common.{◌≡◌, List, [], ◌∷◌, ◌++◌, refl, sym, ap, ◌∙◌, subst, lit<}
use mir.Val.{Val, vptr, vcons, vnil}
use base.Logic.{SProp, ent, id⊢}
use base.Fml.{ftrue}
use prog.Wp.{WpFn}
use types.Kit.{‵, raw, ◌⊛◌, at_ret, ◌$◌, ◌∵◌, !, qed, move, drop, split, join, done, fsplit, fjoin, suffices, use0, use1}
use types.Run.{stop, fld, lit, of_opd, bin, no_more, and_then, first, branches, exec, returns, enter}
use types.ByLocal.{alloc_all, pass_all, free_all, look_at, get, get_in, sets, sets_last, env}
use types.Part.{agg, sub, whole}
use types.Match.{live}
use contract.Running.{tables}
use denote.Exit.{yes}
use denote.RattleType.{RattleType, owns}
use denote.Signature.{types_at, type_at, plain}
use denote.RawPtr.{Ptr, block_ptr, null_ptr, ptr_val, tests_null}
use denote.Steps.{nothing}
use denote.Param.{layout}
use denote.Triple.Walked.{Stays, stay_dropped, walk_of, says, ends_at}
use Rattle.std.proofs.alloc.Calls.{Goes-blank}
use Rattle.std.specs.declared.option.Option.TheVariants.{None, Some}
use Rattle.std.specs.contracts.alloc.Global as heap
use Rattle.std.proofs.alloc.Global.TheLaws as heap_laws
use Rattle.std.specs.contracts.impls.GlobalAllocator.TheImpl.{ghosts}
use Rattle.std.proofs.raw_atomic.Walks.{proved_at}
use Rattle.lamwiest_c.specs.contracts.environments.TableWithLeases as environment
use Rattle.lamwiest_c.specs.contracts.parts.BoxParts as parts
use Rattle.lamwiest_c.specs.contracts.handles.Handle as handle
use Rattle.lamwiest_c.proofs.Values.{both, pieces_good, pieces_in, handle_out, handle_good}
use Rattle.std.proofs.alloc.Shapes.{after}
use Rattle.std.proofs.option.Made.{Some-of, none_of}
use Rattle.std.proofs.ResultValues.{and_tt}
use Rattle.std.proofs.cell.Inside.{Good}
use Rattle.lamwiest_c.proofs.Values.{Ptr-Good, either_held}
use Rattle.lamwiest_c.specs.contracts.handles.Handle.take.{ended, clauses}
use Rattle.lamwiest_c.specs.contracts.handles.Handle.take.Key.{name as #self}
use Rattle.lamwiest_c.proofs.handles.Handle.take.Statement.{statement}
use Rattle.lamwiest_c.proofs.handles.Handle.take.Code as code

pub take_spec : {M : Type 1} → statement M
take_spec 𝓤 𝓛 𝓜 𝓡 wired =
    let 𝓣 = tables 𝓤 𝓛.H 𝓜 𝓡 𝓡.env in let c = clauses 𝓛 𝓜.mem 𝓡.returns in let fn = code.function in let R = environment.the_row in let Z = heap.the_row in let LZ = heap_laws.the_row_laws in
    let P : RattleType = parts.the_row R Z ghosts in let hs : Stays ended.signature.params ended.kept = (stay_dropped (plain (λ _. handle.the_row)) yes, tt) in
    proved_at 𝓛 ended hs c 𝓜 𝓡 (Goes-blank 𝓛 0 (plain (λ _. handle.the_row)) yes (λ κs x f. tt), tt) #self fn (code.unfolded 𝓤 𝓛.H 𝓜 𝓡 wired) (λ z are.
    let Post : Val → SProp 𝓤 = (walk_of 𝓛 ended hs c).post z in let Run : List Val → SProp 𝓤 = λ ws. WpFn 𝓤 𝓛.H 𝓣.C 𝓣.Λ fn ws Post in let d = z.0.3.0 in let Out : RattleType = type_at ended.signature.result z.0.0 in
    qed 𝓛 ((‵ ftrue ⊛ ‵ (owns (types_at ended.signature.params z.0.0) z.0.3 z.0.4)) ∷ raw ((c z.0.0 z.0.3).requires z.1) ∷ []) ∵ split ! $ move ! (2 ∷ []) $ drop ! $ move ! (1 ∷ []) $ fsplit ! $ move ! (1 ∷ []) $ drop ! $
    handle_out LZ ! d z.0.4.0 (λ h es fits. either_held d.alloc ! d.at d.value
    (λ is ended_already. let w = both (ptr_val null_ptr) h in let v₁ = live 0 vnil in let e : z.0.4.0 ≡ w ∷ [] = es ∙ ap (λ (p : Ptr). both (ptr_val p) h ∷ []) is in
    drop ! $ suffices ! (Run (w ∷ [])) (subst (λ (us : List Val). ent 𝓤 (Run (w ∷ [])) (Run us)) (sym (λ i. e i ++ [])) (id⊢ 𝓤 (Run (w ∷ [])))) $
    enter ! 𝓣.C 𝓣.Λ fn (w ∷ []) Post $ alloc_all ! (λ l. pass_all ! refl (handle_good LZ null_ptr h fits, tt) $ let Ev = env fn.locals l in
    sets ! (of_opd ! (get_in ! (fld ! refl (stop !)) (sub ! 0 refl (whole !)))) refl (Ptr-Good null_ptr) $ sets ! (of_opd ! (get_in ! (fld ! refl (stop !)) (sub ! 1 refl (whole !)))) refl fits $
    sets ! (bin ! (get ! refl) (lit ! tt) tt) refl (tt, tt) $ first ! $ branches ! (get ! refl)
    (λ _. sets_last ! (agg ! (and_then ! (lit ! tt) (no_more !))) refl (tt, (record { fits = lit< tt }, tt)) $ exec ! 𝓣.C 𝓣.Λ Ev (after 4 fn.body) (at_ret Ev Post) $ sets ! (of_opd ! (get ! refl)) refl (tt, (record { fits = lit< tt }, tt)) $
    use0 𝓛 (‵ (Out.own_val None (v₁ ∷ []))) (none_of 𝓛 P) $ returns ! (look_at ! 0 refl) $ free_all ! refl $
    suffices ! _ (ends_at 𝓛 ended hs c z v₁ None (tt, tt) (tt, tt)) $ says ! ended_already $ nothing ! $ nothing ! $ fjoin ! $ join ! $ move ! (1 ∷ 0 ∷ []) $ join ! $ done !)
    (λ wrong. absurd wrong)))
    (λ b o x is live_still t. let w = both (vptr b o) h in let v₁ = live 1 (vcons w vnil) in let e : z.0.4.0 ≡ w ∷ [] = es ∙ ap (λ (p : Ptr). both (ptr_val p) h ∷ []) is in
    let typed = pieces_good R Z LZ ghosts b o h fits in let r : P.Denot = record { ptr = block_ptr b o; alloc = d.alloc; value = x } in
    let good : Good (layout Out) v₁ = (and_tt _ typed.0, (record { fits = lit< tt }, (typed.1, tt))) in
    suffices ! (Run (w ∷ [])) (subst (λ (us : List Val). ent 𝓤 (Run (w ∷ [])) (Run us)) (sym (λ i. e i ++ [])) (id⊢ 𝓤 (Run (w ∷ [])))) $
    enter ! 𝓣.C 𝓣.Λ fn (w ∷ []) Post $ alloc_all ! (λ l. pass_all ! refl (handle_good LZ (block_ptr b o) h fits, tt) $ let Ev = env fn.locals l in
    sets ! (of_opd ! (get_in ! (fld ! refl (stop !)) (sub ! 0 refl (whole !)))) refl (tt, tt) $ sets ! (of_opd ! (get_in ! (fld ! refl (stop !)) (sub ! 1 refl (whole !)))) refl fits $
    sets ! (bin ! (get ! refl) (lit ! tt) (tests_null (block_ptr b o) t)) refl (tt, tt) $ first ! $ branches ! (get ! refl) (λ wrong. absurd wrong) (λ _.
    sets ! (of_opd ! (get ! refl)) refl (tt, tt) $ sets ! (agg ! (and_then ! (get ! refl) (and_then ! (get ! refl) (no_more !)))) refl typed $ sets_last ! (agg ! (and_then ! (lit ! tt) (and_then ! (get ! refl) (no_more !)))) refl good $
    exec ! 𝓣.C 𝓣.Λ Ev (after 4 fn.body) (at_ret Ev Post) $ sets ! (of_opd ! (get ! refl)) refl good $ pieces_in R Z LZ ghosts ! b o h d.alloc x $
    use1 𝓛 (‵ (Out.own_val (Some r) (v₁ ∷ []))) (Some-of 𝓛 P r w) $ returns ! (look_at ! 0 refl) $ free_all ! refl $
    suffices ! _ (ends_at 𝓛 ended hs c z v₁ (Some r) (tt, tt) (tt, tt)) $ says ! live_still $ nothing ! $ nothing ! $ fjoin ! $ join ! $ move ! (1 ∷ 0 ∷ []) $ join ! $ done !)))))
