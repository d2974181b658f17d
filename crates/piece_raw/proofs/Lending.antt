-- The value of one node leaves the links, and comes back as another. Assumes `Logic`.
use mathlib.Core.Path.{◌≡◌, refl, sym, subst, ◌∙◌}
use Prim.Native.Nat.{ℕ, ◌+◌}
use mathlib.Core.List.{List, [], ◌∷◌, ◌++◌}
use seplogic.Ra.Ura.{Ura}
use base.Fraction.{full_share}
use mir.Val.{Val}
use base.Logic.{ent, sep}
use base.Fml.{Fml, fsep}
use types.Logic.{Logic, sem}
use types.Kit.{‵, ◌$◌, ◌∵◌, !, qed, move, use2, rewrite, fsplit3, fjoin, fjoin3, fpack, done}
use denote.Memory.{mem, cell_at, part_at, part_of}
use denote.RawPtr.{Ptr, block_ptr, lies_at}
use Rattle.piece_raw.specs.Linked.{linked, places, IsApart, set_value, places-set_value}
use Rattle.piece_raw.specs.Ownership.{path, value_of, values_own}
use Rattle.piece_raw.specs.Lends.{with_value}
use Rattle.piece_raw.proofs.Apart.{apart_places, set_value-cut}
use Rattle.piece_raw.proofs.Memory.{Of, RV, vo, Member, Lr, Mark, One, values_glue}

module _ (E : Of) (rb ro : ℕ) (d : (Lr E).Denot) (xs ys : List (Member E)) (vs : List Val) where
  -- the links at (rb, ro) without the value that stood between those of xs and of ys
  abbrev pub Rest : Fml
  Rest = fsep (values_own (RV E) (xs ++ ys)) (fsep (path d.trailer.at (places d.nodes ++ d.trailer.at ∷ []))
      (fsep (One E d.trailer) (fsep ((Mark E).own_val (tt, tt) vs)
      (cell_at full_share (Lr E).mir vs rb ro))))

  pub put_back : {M : Type 1} {𝓤 : Ura M} (𝓛 : Logic 𝓤) (p : Ptr) (n : Member E) (b o : ℕ) →
      d.nodes ≡ xs ++ n ∷ ys → n.at ≡ p → n.at ≡ block_ptr b o → (w : E.row.Denot)
      → ent 𝓤 (sep 𝓤 (sem 𝓛 ((mem (RV E)).own_at w b (o + vo E))) (sem 𝓛 Rest))
      (sem 𝓛 ((mem (Lr E)).own_at (with_value d p w) rb ro))
  unfolding part_of
  put_back 𝓛 p n b o cut at e w =
      let m : Member E = linked n.at w in
      let written : set_value p w d.nodes ≡ xs ++ m ∷ ys =
      (λ i. set_value (sym at i) w (cut i)) ∙ set_value-cut xs n ys w (subst (λ ns. IsApart (places ns))
      cut (apart_places d.trailer.at d.nodes d.apart)) in
      qed 𝓛 (‵ (part_at (RV E) full_share w b (o + vo E)) ∷ ‵ Rest ∷ [])
      ∵ rewrite ! 0 (λ (p : Ptr). ‵ (lies_at (RV E) full_share (value_of (RV E) p) w)) (sym e) refl $
      move ! (1 ∷ []) $ fsplit3 ! $ move ! (2 ∷ []) $ fsplit3 ! $ move ! (5 ∷ 3 ∷ []) $
      use2 𝓛 (‵ (values_own (RV E) (xs ++ m ∷ ys))) (values_glue 𝓛 E xs m ys) $
      rewrite ! 0 (λ (ns : List (Member E)). ‵ (values_own (RV E) ns)) (sym written) refl $
      rewrite ! 4 (λ (ps : List Ptr). ‵ (path d.trailer.at (ps ++ d.trailer.at ∷ [])))
      (sym (places-set_value p w d.nodes)) refl $
      move ! (4 ∷ 1 ∷ 0 ∷ []) $ fjoin3 ! $ move ! (1 ∷ 0 ∷ []) $ fjoin ! $ move ! (1 ∷ 0 ∷ []) $ fjoin ! $
      fpack ! (List Val) (λ us. fsep (cell_at full_share (Lr E).mir us rb ro)
      ((Lr E).own_val (with_value d p w) us)) vs $ done !
