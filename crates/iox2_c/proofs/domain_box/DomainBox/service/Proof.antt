-- `service` asks whether the pointer is null, and lends the domain behind it where it isn't. The box follows the
-- domain.
use Rattle.std.proofs.Common.{◌≡◌, ℕ, List, [], ◌∷◌, ◌++◌, refl, sym, subst, lit<}
use seplogic.Ra.Ura.{Ura}
use mir.Syntax.{Body, named, cond, skip}
use mir.Raw.{raw as bare}
use mir.Val.{Val, vptr, vcons, vnil}
use base.Fraction.{full_share}
use base.Logic.{SProp, ent, sep, emp, id⊢}
use base.Fml.{Fml, GName, Lft, ftrue, fsep, flft, fobs, fres}
use prog.Wp.{Wp, WpFn, after_seq, at_return}
use types.Logic.{Logic, sem}
use types.Kit.{‵, raw, ◌⊛◌, some, later, any_q, at_ret, ◌$◌, ◌∵◌, !, qed, by, move, keep, drop, split, split3, join}
use types.Kit.{group, pick, await, rewrite, fsplit, fsplit3, fjoin, fpack, suffices, use0, use1, done}
use types.Run.{stop, fld, addr, load, lit, of_opd, bin, no_more, and_then, first, blocks, branches, exec, returns}
use types.Run.{enter}
use types.ByLocal.{alloc_all, pass_all, free_all, look_at, get, through, sets, sets_last, is, env}
use types.Part.{agg, look_in, sub, whole}
use types.Match.{live}
use contract.Monad.{fact, fact_i}
use contract.Running.{tables}
use denote.Exit.{no}
use denote.RattleType.{RattleType, owns}
use denote.Ref.{MutBor, MutRef}
use denote.Memory.{mem, cell_at, lone, part_at, part_of}
use denote.RawPtr.{Ptr, block_ptr, null_ptr, ptr_val, tests_null}
use denote.Signature.{types_at, plain, mut_ref_to}
use denote.Param.{layout}
use denote.Steps.{nothing, opens, closes}
use denote.Follow.{follows, follows_by, follows_if, lends_Part}
use denote.Triple.Walked.{Stays, stay_dropped, walk_of, Goes-spent_ref}
use Rattle.core.proofs.alloc.Shapes.{after, head}
use Rattle.core.proofs.cell.Inside.{Good}
use Rattle.core.proofs.option.Made.{Some-of, none_of}
use Rattle.core.specs.Option.{ghost_name_of}
use Rattle.core.specs.contracts.option.Option as Opt
use Rattle.std.specs.Prelude.{MatchOption}
use Rattle.std.specs.declared.option.Option.TheVariants.{None, Some}
use Rattle.std.proofs.raw_atomic.Walks.{proved_at, leaves}
use Rattle.std.specs.contracts.impls.GlobalAllocator.TheImpl.{ghosts}
use Rattle.iox2_c.proofs.Values.{both}
use Rattle.iox2_c.proofs.DomainBoxSteps.{R, Z, H, boxed, held_good, held_out, held_in, held_cases}
use Rattle.iox2_c.specs.Lending.{with_service}
use Rattle.iox2_c.specs.contracts.domain_box.DomainBox.service.{ended, clauses}
use Rattle.iox2_c.specs.contracts.domain_box.DomainBox.service.Key.{name as #self}
use Rattle.iox2_c.proofs.domain_box.DomainBox.service.Statement.{statement}
use Rattle.iox2_c.proofs.domain_box.DomainBox.service.Code as code

-- what a condition does where it fails
abbrev other : Body → Body
other (cond c a b) = b
other _ = skip

-- all of the box but its domain
abbrev rest : H.Denot → Val → (b o rb ro : ℕ) → Fml
rest d h b o rb ro = fsep (fsep (ghosts.dealloc_token d.alloc (bare (lone R.mir)) (block_ptr b o))
    (Z.own_val d.alloc (h ∷ []))) (cell_at full_share H.mir (both (vptr b o) h ∷ []) rb ro)

back : {M : Type 1} {𝓤 : Ura M} (𝓛 : Logic 𝓤) (d : H.Denot) (h : Val) (b o rb ro : ℕ) → d.at ≡ block_ptr b o
    → (w : R.Denot)
    → ent 𝓤 (sep 𝓤 (sem 𝓛 ((mem R).own_at w b o)) (sem 𝓛 (rest d h b o rb ro)))
    (sem 𝓛 ((mem H).own_at (with_service d w) rb ro))
unfolding part_of
back 𝓛 d h b o rb ro at w =
    qed 𝓛 (‵ (part_at R full_share w b o) ∷ ‵ (rest d h b o rb ro) ∷ []) ∵ move ! (1 ∷ []) $ fsplit ! $ fsplit !
    $ move ! (3 ∷ []) $ fjoin ! $
    held_in ! (block_ptr b o) h d.alloc (Some w) $
    rewrite ! 0 (λ (p : Ptr). ‵ (H.own_val (record { at = p; alloc = d.alloc; service = Some w })
    (both (vptr b o) h ∷ []))) (sym at) refl $ move ! (1 ∷ 0 ∷ []) $ fjoin ! $
    fpack ! (List Val) (λ us. fsep (cell_at full_share H.mir us rb ro) (H.own_val (with_service d w) us))
    (both (vptr b o) h ∷ []) $ done !

pub service_spec : {M : Type 1} → statement M
unfolding follows_by
service_spec 𝓤 𝓛 𝓜 𝓡 wired =
    let 𝓣 = tables 𝓤 𝓛.H 𝓜 𝓡 𝓡.env in let c = clauses 𝓛 𝓜.mem 𝓡.returns in let fn = code.function in
    let hs : Stays ended.signature.params ended.kept =
    (stay_dropped (mut_ref_to (0 ∷ []) tt (plain (λ _. H))) no, tt) in
    proved_at 𝓛 ended hs c 𝓜 𝓡 (Goes-spent_ref 𝓛 1 (0 ∷ []) tt (plain (λ _. H)), tt) #self fn
    (code.unfolded 𝓤 𝓛.H 𝓜 𝓡 wired) (λ z are.
    let κ = z.0.0.0 in let q = z.0.1.0 in let m : MutBor H.Denot = z.0.3.0 in let d = m.now in let rb = m.ref_ptr.0 in
    let ro = m.ref_ptr.1 in let γ = m.ghost_name in
    let Post : Val → SProp 𝓤 = (walk_of 𝓛 ended hs c).post z in
    let Run : List Val → SProp 𝓤 = λ ws. WpFn 𝓤 𝓛.H 𝓣.C 𝓣.Λ fn ws Post in
    let Lent : RattleType = MutRef (named 0) κ R in let u : Val = vptr rb ro in
    qed 𝓛 (((‵ (flft κ q) ⊛ ‵ ftrue) ⊛ ‵ (owns (types_at ended.signature.params z.0.0) z.0.3 z.0.4)) ∷ raw
    ((c z.0.0 z.0.3).requires z.1) ∷ []) ∵
    suffices ! (Run (u ∷ []))
    (subst (λ (us : List Val). ent 𝓤 (Run (u ∷ [])) (Run us)) (sym (λ i. are.0.0 i ++ [])) (id⊢ 𝓤 (Run (u ∷ [])))) $
    enter ! 𝓣.C 𝓣.Λ fn (u ∷ []) Post $ alloc_all ! (λ l. pass_all ! refl ((tt, tt), tt) $ let Ev = env fn.locals l in
    split ! $ split ! $ move ! (2 ∷ []) $ fsplit ! $ fsplit3 ! $ drop ! $ move ! (0 ∷ 1 ∷ 3 ∷ [])
    $ opens ! tt H {h = d} rb ro (λ vs. move ! (1 ∷ []) $
    held_out ! d vs (λ h ws fits. held_cases ! d.alloc d.at d.service
    (λ at none.
    let v : Val = both (ptr_val null_ptr) h in let null : Val = ptr_val null_ptr in
    move ! (1 ∷ []) $ rewrite ! 0 (λ (us : List Val). ‵ (cell_at full_share H.mir us rb ro))
    (subst (λ (p : Ptr). vs ≡ both (ptr_val p) h ∷ []) at ws) refl $
    sets ! (of_opd ! (load ! (through ! refl (fld ! refl (stop !))) (look_in ! 0 (sub ! 0 refl (whole !))))) refl
    (tt, record { fits = lit< tt }) $
    sets ! (of_opd ! (get ! refl)) refl (tt, record { fits = lit< tt }) $
    sets ! (bin ! (get ! refl) (lit ! tt) tt) refl (tt, tt) $ first ! $ branches ! (get ! refl)
    (λ _. sets_last ! (agg ! (and_then ! (lit ! tt) (no_more !))) refl (tt, (record { fits = lit< tt }, tt))
    $ exec ! 𝓣.C 𝓣.Λ Ev code.Mir.t-5 (at_ret Ev Post)
    $ sets ! (of_opd ! (get ! refl)) refl (tt, (record { fits = lit< tt }, tt)) $
    move ! (1 ∷ []) $ nothing ! $ held_in ! null_ptr h d.alloc None $
    rewrite ! 0 (λ (e : H.Denot). ‵ (H.own_val e (v ∷ [])))
    (λ i. record { at = sym at i; alloc = d.alloc; service = sym none i }) refl $ move ! (1 ∷ 0 ∷ [])
    $ closes ! tt H d (v ∷ []) rb ro $
    use1 𝓛 (‵ (fres γ (H.coded.code d))) (𝓛.names.obs-res γ (H.coded.code d)) $ move ! (1 ∷ []) $ drop ! $
    use0 𝓛 (raw (fact 𝓤 (d.service ≡ None))) (fact_i 𝓤 (d.service ≡ None) (emp 𝓤) none) $ move ! (1 ∷ 0 ∷ []) $ join ! $
    use0 𝓛 (‵ ((Opt.the_row Lent).own_val None (live 0 vnil ∷ []))) (none_of 𝓛 Lent) $ nothing ! $ nothing ! $ fjoin ! $
    move ! (3 ∷ []) $ nothing ! $ move ! (1 ∷ 0 ∷ []) $ join ! $
    returns ! (look_at ! 0 refl) $ free_all ! refl $ keep ! (0 ∷ 1 ∷ 2 ∷ 3 ∷ [])
    $ by ! (leaves 𝓛 ended hs c z (live 0 vnil) None (tt, tt) (tt, tt))) (λ wrong. absurd wrong))
    (λ b o x at there t.
    let v : Val = both (vptr b o) h in let out : Val = live 1 (vcons (vptr b o) vnil) in
    let rests = any_q
    (after_seq 𝓤 𝓛.H (Wp 𝓤 𝓛.H 𝓣.C 𝓣.Λ Ev code.Mir.t-5 (at_return 𝓤 𝓛.H Ev Post)) (at_return 𝓤 𝓛.H Ev Post)) in
    fsplit ! $ rewrite ! 3 (λ (us : List Val). ‵ (cell_at full_share H.mir us rb ro))
    (subst (λ (p : Ptr). vs ≡ both (ptr_val p) h ∷ []) at ws) refl $
    sets ! (of_opd ! (load ! (through ! refl (fld ! refl (stop !))) (look_in ! 3 (sub ! 0 refl (whole !))))) refl
    (tt, tt) $
    sets ! (of_opd ! (get ! refl)) refl (tt, tt) $
    sets ! (bin ! (get ! refl) (lit ! tt) (tests_null (block_ptr b o) t)) refl (tt, tt) $ first !
    $ branches ! (get ! refl) (λ wrong. absurd wrong) (λ _.
    first ! $ blocks ! $ sets ! (of_opd ! (get ! refl)) refl (tt, tt) $ sets ! (of_opd ! (get ! refl)) refl (tt, tt)
    $ sets_last ! (addr ! (through ! refl (stop !))) refl (tt, tt) $
    exec ! 𝓣.C 𝓣.Λ Ev (after 1 (other (head (after 3 fn.body)))) rests $
    sets ! (of_opd ! (get ! refl)) refl (tt, tt) $ sets_last !
    (agg ! (and_then ! (lit ! tt) (and_then ! (get ! refl) (no_more !)))) refl
    (tt, (record { fits = lit< tt }, (tt, tt))) $
    exec ! 𝓣.C 𝓣.Λ Ev code.Mir.t-5 (at_ret Ev Post)
    $ sets ! (of_opd ! (get ! refl)) refl (tt, (record { fits = lit< tt }, (tt, tt))) $
    move ! (1 ∷ 2 ∷ []) $ fjoin ! $ move ! (0 ∷ 2 ∷ []) $ fjoin ! $ move ! (2 ∷ 3 ∷ 4 ∷ 1 ∷ 0 ∷ []) $ group ! 5 $
    use1 𝓛
    (later
    (some (λ (γ' : GName). ‵ (Lent.own_val (record { ref_ptr = (b, o); ghost_name = γ'; now = x }) (vptr b o ∷ []))
    ⊛ ‵ (flft κ q) ⊛ ‵ (follows H R γ γ' (with_service d)))))
    (lends_Part 𝓛 H R (with_service d) (named 0) κ q rb ro b o γ (sem 𝓛 (rest d h b o rb ro)) (back 𝓛 d h b o rb ro at)
    (H.coded.code d) (H.coded.code d) x) $ await ! tt $ pick ! (λ γ'.
    let r : MutBor R.Denot = record { ref_ptr = (b, o); ghost_name = γ'; now = x } in split3 ! $
    use1 𝓛 (‵ ((Opt.the_row Lent).own_val (Some r) (out ∷ []))) (Some-of 𝓛 Lent r (vptr b o)) $ move ! (2 ∷ []) $
    use0 𝓛 (raw (fact 𝓤 (d.service ≡ Some x))) (fact_i 𝓤 (d.service ≡ Some x) (emp 𝓤) there) $ move ! (1 ∷ 0 ∷ [])
    $ join ! $ move ! (1 ∷ 0 ∷ []) $ nothing ! $ nothing ! $ fjoin ! $
    move ! (3 ∷ []) $ nothing ! $ move ! (1 ∷ 0 ∷ []) $ join ! $
    returns ! (look_at ! 0 refl) $ free_all ! refl $ keep ! (0 ∷ 1 ∷ 2 ∷ 3 ∷ [])
    $ by ! (leaves 𝓛 ended hs c z out (Some r) (tt, tt) (tt, tt)))))))))
