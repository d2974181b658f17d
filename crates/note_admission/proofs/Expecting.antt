-- What is admitted, with more entries or anew.
use Rattle.std.proofs.Common.{◌≡◌, ℕ, ◌↔◌, ◌⊎◌, inl, inr, Bool, true, false, List, [], Contains, refl, sym, ap, subst, ◌∙◌}
use Rattle.std.proofs.Common.{IsSome, arith}
use Rattle.operations.specs.Operation.{Operation}
use Rattle.set_laws.specs.Fronts.{IsHeld}
use Rattle.set_laws.proofs.Closing.{lemma_nothing_is_good, nothing_is_identified}
use Rattle.set_laws.proofs.Picking.{Contains-none}
use Rattle.std.specs.Map.{lookup}
use Rattle.std.specs.Prelude.{nat_eq}
use Rattle.note_laws.specs.Note.{Note, Entries, IsOfBase, Saying}
use Rattle.note_laws.specs.Chains.{HoldsItsPlace}
use Rattle.note_laws.specs.Admission.{CountInTurn, IsAdmissible, IsAdmission}
use Rattle.note_laws.specs.Laws.{KeepTheirPlaces}
use Rattle.note_laws.proofs.Adding.{still_in_turn}
use Rattle.note_laws.proofs.Lists.{has_op}
use Rattle.note_admission.specs.declared.text_admission.Unsettled.{Unsettled}
use Rattle.note_admission.specs.declared.text_admission.Unsettled.TheVariants.{Nothing, Any}
use Rattle.note_admission.specs.Growing.{AreAdmitted, AreKnown, FollowsEntries, IsSoundLog, HasCome, MayCount, StaysAdmitted, TextSeen}
use Rattle.note_admission.specs.Kept.{BaseSites, IsKeptOf, seen_of}

pub nothing_is_sound : (text : ℕ) → IsSoundLog text [] []
nothing_is_sound text = record {
  in_turn = λ n op at. cc;
  good = lemma_nothing_is_good;
  known = nothing_is_identified;
  whole = refl;
}

any_may : (x : Unsettled) → x ≡ Any → (site : ℕ) → MayCount x site
any_may x is site = subst (λ (y : Unsettled). MayCount y site) (sym is) tt

nothing_in_turn : (note : Note) (entries : Entries) (text : ℕ) → CountInTurn note entries text []
nothing_in_turn note entries text n s at = cc

-- where none may count, all that does is admitted
pub whole_if_settled : (t : TextSeen) → t.unsettled ≡ Nothing → (note : Note) (entries : Entries)
    (admitted : List Saying) → AreAdmitted note entries t admitted → IsAdmission note entries t.text admitted
whole_if_settled t settled note entries admitted is = record {
  in_turn = is.taken.in_turn;
  full = λ s counts. subst (λ (y : Unsettled). MayCount y s.op.site) settled (is.rest s counts);
}

-- what holds a place is there
pub holds_there : (note : Note) (entries : Entries) (s : Saying) → HoldsItsPlace note entries s → HasCome note entries s
holds_there note entries s (inl base) = inl base
holds_there note entries s (inr (holder, least)) = inr least.made

pub stays : (old new : TextSeen) → new.text ≡ old.text → new.ops ≡ old.ops → new.kept ≡ old.kept
    → new.unsettled ≡ old.unsettled → ((x : ℕ) → Contains old.sites x → Contains new.sites x) → StaysAdmitted old new
stays old new text ops kept same sites note entries admitted is = record {
  taken = record {
    in_turn = subst (λ (n : ℕ). CountInTurn note entries n admitted) (sym text) is.taken.in_turn;
    logged = is.taken.logged ∙ sym ops;
    tables = subst (IsKeptOf note admitted) (sym kept) is.taken.tables;
  };
  known = λ s there on. sites s.op.site (is.known s there (on ∙ text));
  rest = λ s counts. subst (λ (u : Unsettled). MayCount u s.op.site) (sym same)
      (is.rest s (subst (λ (n : ℕ). IsAdmissible note entries n admitted s) text counts));
}

module _ (note : Note) (entries more : Entries) (old new : TextSeen) (admitted : List Saying)
    (is : AreAdmitted note entries old admitted) (known : AreKnown entries more old) (text : new.text ≡ old.text)
    (sites : new.sites ≡ old.sites) where
  known_too : (s : Saying) → HasCome note more s → s.op.text ≡ new.text → Contains new.sites s.op.site
  known_too s there on = subst (λ (xs : List ℕ). Contains xs s.op.site) (sym sites) (elim there [
    | inl base ↦ is.known s (inl base) (on ∙ text)
    | inr said ↦ elim (known s said (on ∙ text)) [
      | inl was ↦ is.known s (inr was) (on ∙ text)
      | inr listed ↦ listed
    ]
  ])

  -- with more entries the same is admitted
  pub same_with_more : ((s : Saying) → HoldsItsPlace note more s → s.op.text ≡ old.text
      → HoldsItsPlace note entries s ⊎ MayCount new.unsettled s.op.site) → KeepTheirPlaces note more admitted
      → new.ops ≡ old.ops → new.kept ≡ old.kept → ((x : ℕ) → MayCount old.unsettled x → MayCount new.unsettled x)
      → AreAdmitted note more new admitted
  same_with_more adds keep ops kept others = record {
    taken = record {
      in_turn = subst (λ (n : ℕ). CountInTurn note more n admitted) (sym text)
          (still_in_turn note entries more old.text admitted is.taken.in_turn keep);
      logged = is.taken.logged ∙ sym ops;
      tables = subst (IsKeptOf note admitted) (sym kept) is.taken.tables;
    };
    known = known_too;
    rest = λ s counts.
        let next = counts.0 in
        elim (adds s next.holds (next.of_text ∙ text)) [
          | inl old_one ↦ others s.op.site (is.rest s (
            record {
              of_text = next.of_text ∙ text;
              new = next.new;
              follows = next.follows;
              holds = old_one;
              names = next.names;
            },
            counts.1,
          ))
          | inr may ↦ may
        ];
  }

  -- or nothing yet
  pub none_with_more : new.ops ≡ [] → new.kept.hashes ≡ [] → new.kept.seen ≡ [] → new.kept.base ≡ old.kept.base
      → new.unsettled ≡ Any → AreAdmitted note more new []
  none_with_more ops hashes seen base any = record {
    taken = record {
      in_turn = nothing_in_turn note more new.text;
      logged = sym ops;
      tables = record {
        hashes = hashes;
        seen = λ chain at off. (
          λ le p name held. absurd (Contains-none p held),
          λ all.
              let none : seen_of new.kept.seen chain at ≡ 0 = ap (λ s. seen_of s chain at) seen in
              omega arith,
        );
        base = λ x. subst (λ (b : BaseSites). IsSome (lookup (nat_eq x) b) ↔ IsOfBase note x) (sym base) (is.taken.tables.base x);
      };
    };
    known = known_too;
    rest = λ s counts. any_may new.unsettled any s.op.site;
  }

pub follows_on : (old new : TextSeen) (site : ℕ) → new.text ≡ old.text → new.sites ≡ old.sites → new.ops ≡ old.ops
    → new.kept ≡ old.kept → ((x : ℕ) → MayCount old.unsettled x → MayCount new.unsettled x)
    → MayCount new.unsettled site → FollowsEntries old new site (λ s. ⊥)
follows_on old new site text sites ops kept others own note entries more admitted is known adds keeps = (
  admitted,
  same_with_more note entries more old new admitted is known text sites
      (λ s holds on. elim (adds s holds on) [
        | inl was ↦ inl was
        | inr of_site ↦ inr (subst (MayCount new.unsettled) (sym of_site) own)
      ]) (λ s held. keeps s held (λ no. no)) ops kept others,
)

pub follows_anew : (old new : TextSeen) (site : ℕ) → new.text ≡ old.text → new.sites ≡ old.sites → new.ops ≡ []
    → new.kept.hashes ≡ [] → new.kept.seen ≡ [] → new.kept.base ≡ old.kept.base → new.unsettled ≡ Any
    → FollowsEntries old new site (λ s. Unit {0})
follows_anew old new site text sites ops hashes seen base any note entries more admitted is known adds keeps = (
  [],
  none_with_more note entries more old new admitted is known text sites ops hashes seen base any,
)

-- where it began anew if a message that was admitted may have lost its place
pub follows_some : (old new : TextSeen) (site : ℕ) (MayLose : Saying → Type 0) (anew : Bool)
    → (anew ≡ false → FollowsEntries old new site (λ s. ⊥)) → (anew ≡ true → FollowsEntries old new site (λ s. Unit {0}))
    → (anew ≡ false → (note : Note) (entries : Entries) (admitted : List Saying) → AreAdmitted note entries old admitted
    → (s : Saying) → Contains admitted s → MayLose s → ⊥) → FollowsEntries old new site MayLose
follows_some old new site MayLose true kept begun none note entries more admitted is known adds keeps =
    begun refl note entries more admitted is known adds (λ s held no. absurd (no tt))
follows_some old new site MayLose false kept begun none note entries more admitted is known adds keeps =
    kept refl note entries more admitted is known adds (λ s held no. keeps s held (none refl note entries admitted is s held))

-- of no messages
pub nothing_admitted : (note : Note) (entries : Entries) (t : TextSeen) (base : List ℕ) → entries.said ≡ []
    → IsKeptOf note [] t.kept → t.ops ≡ [] → t.sites ≡ base → t.unsettled ≡ Any
    → ((site : ℕ) → Contains base site ↔ IsOfBase note site) → AreAdmitted note entries t []
nothing_admitted note entries t base none kept ops sites any of_base = record {
  taken = record { in_turn = nothing_in_turn note entries t.text; logged = sym ops; tables = kept };
  known = λ s there on. subst (λ (xs : List ℕ). Contains xs s.op.site) (sym sites) (elim there [
    | inl of ↦ (of_base s.op.site).1 (s, of, refl)
    | inr said ↦ absurd (Contains-none s (subst (λ (xs : List Saying). Contains xs s) none said))
  ]);
  rest = λ s counts. any_may t.unsettled any s.op.site;
}

-- what is admitted is held in the log
pub held_in_log : (note : Note) (entries : Entries) (t : TextSeen) (admitted : List Saying)
    → AreAdmitted note entries t admitted → (s : Saying) → Contains admitted s → IsHeld t.ops s.op.site s.op.seq
held_in_log note entries t admitted is s held = (
  s.op,
  subst (λ (ops : List Operation). Contains ops s.op) is.taken.logged (has_op admitted s held),
  refl,
  refl,
)
