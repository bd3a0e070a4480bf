-- `fill` writes a scanner into the caller's memory, over one that may lie there.
use mathlib.Core.Path.{◌≡◌, refl, sym, ap, subst, ◌∙◌}
use Prim.Native.Nat.{ℕ}
use mathlib.Core.List.{List, [], ◌∷◌}
use seplogic.Ra.Ura.{Ura}
use base.Fraction.{full_share}
use mir.Syntax.{named, Ty}
use mir.Val.{Val, vptr, vunit}
use base.Logic.{SProp, ent, id⊢}
use base.Fml.{Lft, Share, ftrue, fat, flft}
use prog.Memory.{Memory}
use prog.Routine.{Routine}
use prog.Wp.{Calls, Loops, WpFn}
use contract.Monad.{Fun}
use contract.Running.{tables}
use types.Logic.{Logic, sem}
use types.Kit.{‵, ◌⊛◌, some, at_ret, ◌$◌, ◌∵◌, !, qed, by, move, keep, drop, use1, use2, split, join, pick, fsplit, fsplit3, fjoin, fjoin3, feq_i, rewrite, suffices, frame, done}
use types.Part.{whole, sub, look_in}
use types.Run.{init, stop, fld, load, of_opd, unit_lit, assigns_last, first, blocks, exec, returns, enter}
use types.ByLocal.{alloc_all, pass_all, free_all, look_at, get, through, sets, env}
use denote.Exit.{yes}
use denote.RattleType.{owns}
use denote.Laws.{shows, Typed}
use denote.Memory.{part_at, cell_at, lone}
use denote.RawPtr.{Ptr, block_ptr, null_ptr, lies_at, room_at, in_a_block}
use denote.Ref.{MutRef, MutBor}
use denote.Signature.{plain}
use denote.Steps.{nothing, opens, closes, peeks}
use denote.Triple.Walked.{says, Stays, stay_dropped, stay_ref, walk_of, ends_at, Goes-dropped, Goes-ref}
use borrow.Table.OneValue.{part_out, part_in}
use Rattle.std.specs.Prelude.{Option, Some, None}
use Rattle.std.proofs.raw_atomic.Walks.{proved_at}
use Rattle.std.proofs.VecSteps.Shapes.{after}
use Rattle.resp_scan.specs.contracts.scanner.Scanner.{the_row as T}
use Rattle.resp_scan.proofs.scanner.Scanner.TheLaws.{the_row_laws as T-laws}
use Rattle.resp_c.specs.Memory.{holds}
use Rattle.resp_c.specs.contracts.memory.RespScanner.{the_row as R}
use Rattle.resp_c.proofs.memory.RespScanner.TheLaws.{lowers}
use Rattle.resp_c.specs.contracts.memory.RespScanner.fill as f
use Rattle.resp_c.proofs.memory.RespScanner.fill.Statement.{statement}
use Rattle.resp_c.proofs.memory.RespScanner.fill.Code as code

abbrev τ : Ty
τ = lone T.mir

abbrev stayed : Stays f.ended.signature.params f.ended.kept
stayed = (stay_ref (0 ∷ []) tt (plain (λ _. R)), (stay_dropped (plain (λ _. T)) yes, tt))

module _ {M : Type 1} {𝓤 : Ura M} (𝓛 : Logic 𝓤) where
  -- what lies there leaves room for another
  to_room : (p : Ptr) (m : Option T.Denot) → ent 𝓤 (sem 𝓛 (holds p m)) (sem 𝓛 (room_at T p))
  to_room p None = id⊢ 𝓤 _
  to_room null_ptr (Some s) = id⊢ 𝓤 _
  to_room (block_ptr b o) (Some s) =
      qed 𝓛 (‵ (part_at T full_share s b o) ∷ []) ∵
      use1 𝓛 (some (λ (v : Val). ‵ (fat full_share τ b o v) ⊛ ‵ (T.own_val s (v ∷ [])))) (part_out 𝓛 T refl full_share s b o) $
      pick ! (λ v. split ! $ keep ! (0 ∷ []) $ by ! (𝓛.laws.at_room τ b o v))

module _ {M : Type 1} {𝓤 : Ura M} (𝓛 : Logic 𝓤) (at_mem : Memory → SProp 𝓤) (run : Routine → Fun 𝓤) (C : Calls 𝓤 𝓛.H) (Λ : Loops 𝓤 𝓛.H) (κ : Lft) (q : Share) (self : MutBor R.Denot) (s : T.Denot) where
  abbrev rb : ℕ
  rb = self.ref_ptr.0

  abbrev ro : ℕ
  ro = self.ref_ptr.1

  abbrev h : R.Denot
  h = self.now

  abbrev bound : List Val → List Val → (walk_of 𝓛 f.ended stayed (f.clauses 𝓛 at_mem run)).Ghost
  bound us vs = (((κ, tt), (q, tt), tt, (self, (s, tt)), (us, (vs, tt))), tt)

  abbrev Post : List Val → List Val → Val → SProp 𝓤
  Post us vs = (walk_of 𝓛 f.ended stayed (f.clauses 𝓛 at_mem run)).post (bound us vs)

  abbrev Goal : List Val → List Val → Type 1
  Goal us vs = ent 𝓤 ((walk_of 𝓛 f.ended stayed (f.clauses 𝓛 at_mem run)).pre (bound us vs)) (WpFn 𝓤 𝓛.H C Λ code.function ((walk_of 𝓛 f.ended stayed (f.clauses 𝓛 at_mem run)).args (bound us vs)) (Post us vs))

  walk : (v : Val) → Typed (τ ∷ []) (v ∷ []) → Goal (vptr rb ro ∷ []) (v ∷ [])
  walk v t =
      qed 𝓛 (((‵ (flft κ q) ⊛ ‵ ftrue) ⊛ ‵ (owns (MutRef (named 0) κ R ∷ T ∷ []) (self, (s, tt)) (vptr rb ro ∷ [], (v ∷ [], tt)))) ∷ ‵ ftrue ∷ []) ∵
      enter ! C Λ code.function (vptr rb ro ∷ v ∷ []) _ $ alloc_all ! (λ l. pass_all ! refl ((tt, tt), (t.0, tt)) $
      split ! $ split ! $ move ! (2 ∷ []) $ fsplit ! $ fsplit3 ! $ drop ! $ move ! (2 ∷ []) $ fsplit ! $ move ! (2 ∷ 3 ∷ 4 ∷ 0 ∷ []) $
      opens ! tt R {h = h} rb ro (λ us.
      move ! (1 ∷ []) $ peeks ! R _ (shows 𝓛 R) h us (λ is. fsplit ! $ move ! (1 ∷ []) $
      use1 𝓛 (‵ (room_at T h.memory)) (to_room 𝓛 h.memory h.scanner) $
      in_a_block ! h.memory (λ p. room_at T p) (id⊢ 𝓤 _) (λ b o e.
      let word = lowers.val_is h us is ∙ ap (λ (p : Ptr). lowers.lowered (record h { memory = p }) ∷ []) e in
      let Cell = λ (ws : List Val). ‵ (cell_at full_share R.mir ws rb ro) in
      let new : R.Denot = record { memory = h.memory; scanner = Some s } in
      rewrite ! 2 Cell word refl $
      -- [the room; what the fields own; the struct's cell; the open borrow, in three entries; what the scanner owns]
      first ! $ blocks ! $
      sets ! (of_opd ! (load ! (through ! refl (fld ! refl (stop !))) (look_in ! 2 (sub ! 0 refl (whole !))))) refl (tt, tt) $
      sets ! (of_opd ! (get ! refl)) refl (tt, tt) $
      assigns_last ! (of_opd ! (get ! refl)) (through ! refl (stop !)) (init ! 0 refl (t.0)) $
      exec ! C Λ (env code.Mir.locals l) (after 1 (code.function).body) (at_ret _ (Post (vptr rb ro ∷ []) (v ∷ []))) $
      sets ! (of_opd ! (unit_lit !)) refl (tt, tt) $
      rewrite ! 2 Cell (sym word) refl $
      move ! (0 ∷ 6 ∷ []) $ use2 𝓛 (‵ (part_at T full_share s b o)) (part_in 𝓛 T refl full_share s b o v) $
      rewrite ! 0 (λ (p : Ptr). ‵ (lies_at T full_share p s)) (sym e) refl $
      move ! (1 ∷ 0 ∷ []) $ fjoin ! $ move ! (1 ∷ 0 ∷ []) $ closes ! tt R new us rb ro $
      returns ! (look_at ! 0 refl) $ free_all ! refl $ keep ! (0 ∷ 1 ∷ 2 ∷ []) $
      suffices ! _ (ends_at 𝓛 f.ended stayed (f.clauses 𝓛 at_mem run) (bound (vptr rb ro ∷ []) (v ∷ [])) vunit tt (new, (tt, tt)) (tt, (tt, tt))) $ says ! refl $
      feq_i ! (List Val) (vunit ∷ []) (vunit ∷ []) refl $ move ! (1 ∷ 2 ∷ 3 ∷ 0 ∷ []) $
      nothing ! $ move ! (3 ∷ 0 ∷ []) $ join ! $ frame ! $ feq_i ! (List Val) (vptr rb ro ∷ []) (vptr rb ro ∷ []) refl $ fjoin3 ! $
      nothing ! $ nothing ! $ fjoin ! $ move ! (1 ∷ 0 ∷ []) $ fjoin ! $ done !))))

  -- the reference's machine value is its pointer, and the scanner's is one value of its type
  entry : (us vs : List Val) → us ≡ vptr rb ro ∷ [] → Typed (τ ∷ []) vs → Goal us vs
  entry us [] e t = absurd t
  entry us (v ∷ []) e t = subst (λ (ws : List Val). Goal ws (v ∷ [])) (sym e) (walk v t)
  entry us (v ∷ w ∷ vs) e t = absurd t.1

pub fill_spec : {M : Type 1} → statement M
fill_spec 𝓤 𝓛 𝓜 𝓡 wired =
    let 𝓣 = tables 𝓤 𝓛.H 𝓜 𝓡 𝓡.env in
    proved_at 𝓛 f.ended stayed (f.clauses 𝓛 𝓜.mem 𝓡.returns) 𝓜 𝓡 (Goes-ref 𝓛 1 0 tt (plain (λ _. R)), (Goes-dropped 𝓛 1 (plain (λ _. T)) yes (λ κs x f. refl), tt))
    f.Key.name code.function (code.unfolded 𝓤 𝓛.H 𝓜 𝓡 wired) (λ z are.
    entry 𝓛 𝓜.mem 𝓡.returns 𝓣.C 𝓣.Λ z.0.0.0 z.0.1.0 z.0.3.0 z.0.3.1.0 z.0.4.0 z.0.4.1.0 are.0.0 ((T-laws.lawful 𝓛).typed z.0.3.1.0 z.0.4.1.0 are.1.0))
