-- Messages that are read are the messages that were written, and what was written is read again.
use Rattle.std.proofs.Common.{◌≡◌, ◌↔◌, ℕ, suc, ◌+◌, ◌^◌, ◌<◌, ◌≤◌, Bool, true, false, cond, eqb, ltb, leb}
use Rattle.std.proofs.Common.{◌&&◌, List, [], ◌∷◌, ◌++◌, length, inl, inr, Option, Some, None, Result, Ok}
use Rattle.std.proofs.Common.{Err, refl, sym, ap, subst, ◌∙◌, append_assoc, arith}
use Rattle.std.specs.Prelude.{IfOk, IsErrOf}
use Rattle.std.specs.Int.{w16, w32, w64}
use Rattle.std.proofs.lemmas.Bool.{and_parts, and_from, ltb-true, lt-ltb, leb-true, le-leb, eqb-true}
use Rattle.std.proofs.lemmas.Bool.{eqb-false, ne_eqb, eq-eqb}
use Rattle.std.proofs.lemmas.List.{append-nil, nil_from_length}
use Rattle.looks.specs.declared.refusal.Refusal.{Refusal}
use Rattle.looks.specs.declared.refusal.Refusal.TheVariants.{Malformed}
use Rattle.looks.specs.declared.looks.Looks.{Looks}
use Rattle.looks.specs.Sel.{Selection, bits_of}
use Rattle.char_files.specs.CharName.{CharName}
use Rattle.char_files.specs.declared.name.Anchor.{Anchor}
use Rattle.char_files.specs.declared.name.Anchor.TheVariants.{Root, At}
use Rattle.char_files.specs.declared.TheConstants.{MAX_FILE}
use Rattle.operations.specs.declared.kind.TheConstants.{MAX_INSERT}
use Rattle.operations.specs.declared.op.TheConstants.{MAX_STAMP}
use Rattle.operations.specs.NameSet.{Range, IsNamed}
use Rattle.operations.specs.Operation.{OpKind, insert, delete, restore, change_looks, Operation}
use Rattle.operations.specs.Reading.{FindsWithMemory, checked_anchor, anchor_at, fits_in_file, is_cause, insert_at}
use Rattle.operations.specs.Reading.{delete_at, restore_at, change_at, kind_at, message_tag_at, stamp_at, Header}
use Rattle.operations.specs.Reading.{header_at}
use Rattle.operations.specs.Reading.{operation_of, operation_at, message_of, SpellsNone}
use Rattle.byte_fields.specs.Fields.{number_spelling}
use Rattle.operations.specs.Spelling.{name_spelling, anchor_spelling, looks_spelling}
use Rattle.operations.specs.Spelling.{selected_spelling, set_spelling, kind_byte, kind_spelling}
use Rattle.operations.specs.Spelling.{version_byte, tag_spelling, header_spelling, spelling, IsInsert}
use Rattle.operations.specs.Spelling.{IsChange, IsKind}
use Rattle.operations.specs.Spelling.{HasSpelling}
use Rattle.operations.proofs.Fields.{is_cause_is}
use Rattle.byte_fields.proofs.Readers.{IsBytes, Took, Reads, step, bind_some, some_is, passed, front_bytes}
use Rattle.byte_fields.proofs.Readers.{IsPositive, wide16, wide32, wide64, number_reads, positive_reads}
use Rattle.byte_fields.proofs.Readers.{stretch_reads}
use Rattle.operations.proofs.ReadLooks.{looks_reads, selected_looks_reads, sel_reads, sel_spelling}
use Rattle.operations.proofs.ReadSets.{set_reads}

-- ---- causes

-- a cause that there may be in some message
abbrev IsAnchor : Anchor → Type 0
IsAnchor Root = Unit {0}
IsAnchor (At name) = (0 < name.site) × (name.site < 2 ^ 16) × (name.off < MAX_FILE)

-- the name that a cause is spelled as
abbrev anchor_name : Anchor → CharName
anchor_name Root = record { site = 0; off = 0 }
anchor_name (At name) = name

anchor_name-spelling : (a : Anchor) → anchor_spelling a ≡ name_spelling (anchor_name a)
anchor_name-spelling Root = refl
anchor_name-spelling (At name) = refl

anchor_name-again : (a : Anchor) → IsAnchor a → checked_anchor (anchor_name a).site (anchor_name a).off ≡ Some a
anchor_name-again Root h = refl
anchor_name-again (At name) h =
    let ne : eqb name.site 0 ≡ false = ne_eqb _ _ (λ z. absurd (omega arith)) in
    let below : ltb name.off MAX_FILE ≡ true = lt-ltb _ _ h.2 in
    rw (ne, below) refl

anchor_name-limits : (a : Anchor) → IsAnchor a → ((anchor_name a).site < 2 ^ 16)
    × ((anchor_name a).off < 2 ^ 32)
anchor_name-limits Root h = (omega arith, omega arith)
anchor_name-limits (At name) h = (h.1, omega arith)

-- what two numbers are the cause of
record Names (site off : ℕ) (a : Anchor) : Type 0 where
  is : IsAnchor a
  spelled : anchor_spelling a ≡ number_spelling w16 site ++ number_spelling w32 off

names : (site off : ℕ) (a : Anchor) → site < 2 ^ 16 → checked_anchor site off ≡ Some a → Names site off a
names site off a lt e = go (eqb site 0) refl e
  where
    here : (b : Bool) → eqb off 0 ≡ b → eqb site 0 ≡ true → cond b (Some Root) None ≡ Some a
        → Names site off a
    here true zero-off zero-site h =
        let at : site ≡ 0 = eqb-true _ _ zero-site in
        let to : off ≡ 0 = eqb-true _ _ zero-off in
        subst (Names site off) (some_is Root a h) (record { is = tt; spelled = rw (at, to) refl })
    here false some-off zero-site h = absurd cc

    there : (b : Bool) → ltb off MAX_FILE ≡ b → eqb site 0 ≡ false
        → cond b (Some (At (record { site = site; off = off }))) None ≡ Some a → Names site off a
    there true below some-site h =
        let some : 0 < site = omega (arith, eqb-false _ _ some-site) in
        subst (Names site off) (some_is (At (record { site = site; off = off })) a h) (record {
          is =
              (some, lt, ltb-true _ _ below);
          spelled = refl;
        })
    there false past some-site h = absurd cc

    go : (b : Bool) → eqb site 0 ≡ b
        → cond b (cond (eqb off 0) (Some Root) None)
        (cond (ltb off MAX_FILE) (Some (At (record { site = site; off = off }))) None) ≡ Some a
        → Names site off a
    go true is h = here (eqb off 0) refl is h
    go false is h = there (ltb off MAX_FILE) refl is h

anchor_split : (a : Anchor) (rest : List ℕ) → anchor_spelling a ++ rest
    ≡ number_spelling w16 (anchor_name a).site ++ (number_spelling w32 (anchor_name a).off ++ rest)
anchor_split a rest = ap (λ (x : List ℕ). x ++ rest) (anchor_name-spelling a)
    ∙ append_assoc (number_spelling w16 (anchor_name a).site) (number_spelling w32 (anchor_name a).off) rest

anchor_reads : Reads anchor_at anchor_spelling IsAnchor
unfolding anchor_at
anchor_reads =
    let site = number_reads w16 (2 ^ 16) wide16 in
    let off = number_reads w32 (2 ^ 32) wide32 in
    record {
      takes = λ bytes a rest fits e.
          let s = step _ _ _ site _ bytes (a, rest) fits e in
          let t = step _ _ _ off _ s.rest (a, rest) s.took.rest_fits s.goes_on in
          let u = bind_some (checked_anchor s.x t.x) _ (a, rest) t.goes_on in
          let is = names s.x t.x u.0 s.took.in_range u.1 in
          let whole : bytes ≡ anchor_spelling u.0 ++ t.rest =
          s.took.parts ∙ ap (λ (x : List ℕ). number_spelling w16 s.x ++ x) t.took.parts
          ∙ sym (append_assoc (number_spelling w16 s.x) (number_spelling w32 t.x) t.rest)
          ∙ ap (λ (x : List ℕ). x ++ t.rest) (sym is.spelled) in
          subst (λ (p : Anchor × List ℕ). Took anchor_spelling IsAnchor bytes p.0 p.1) (some_is _ _ u.2)
          (record { parts = whole; rest_fits = t.took.rest_fits; in_range = is.is });
      again = λ a rest is.
          let limits = anchor_name-limits a is in
          ap anchor_at (anchor_split a rest)
          ∙ rw (
            site.again (anchor_name a).site (number_spelling w32 (anchor_name a).off ++ rest) limits.0,
            off.again (anchor_name a).off rest limits.1,
            anchor_name-again a is,
          ) refl;
    }

-- ---- kinds

-- a kind of this number, in an operation of this site
record IsOfKind (number site : ℕ) (kind : OpKind) : Type 0 where
  number_is : kind_byte kind ≡ number
  is : IsKind site kind

anchor_of_cause : (site at : ℕ) (a : Anchor) → is_cause site at a ≡ true → IsAnchor a
anchor_of_cause site at Root h = tt
anchor_of_cause site at (At name) h = let is = (is_cause_is site at (At name)).0 h in (is.0, is.1, is.2)

five_parts : (a b c d e rest : List ℕ) → ((((a ++ b) ++ c) ++ d) ++ e) ++ rest ≡ a
    ++ (b ++ (c ++ (d ++ (e ++ rest))))
five_parts a b c d e rest = simp append_assoc

insert_split : (cause : Anchor) (at : ℕ) (looks : Looks) (bytes rest : List ℕ)
    → kind_spelling (insert cause at looks bytes) ++ rest ≡ anchor_spelling cause
    ++ (number_spelling w32 at ++ (looks_spelling looks ++ (number_spelling w16 (length bytes)
    ++ (bytes ++ rest))))
insert_split cause at looks bytes rest =
    five_parts (anchor_spelling cause) (number_spelling w32 at) (looks_spelling looks)
    (number_spelling w16 (length bytes)) bytes rest

insert_takes : (site : ℕ) (bytes : List ℕ) (kind : OpKind) (rest : List ℕ) → IsBytes bytes
    → insert_at site bytes ≡ Some (kind, rest) → Took kind_spelling (IsOfKind 1 site) bytes kind rest
unfolding insert_at
insert_takes site bytes kind rest fits e =
    let s = step _ _ _ anchor_reads _ bytes (kind, rest) fits e in
    let t = step _ _ _ (number_reads w32 (2 ^ 32) wide32) _ s.rest (kind, rest) s.took.rest_fits s.goes_on in
    let u = step _ _ _ looks_reads _ t.rest (kind, rest) t.took.rest_fits t.goes_on in
    let v = step _ _ _ (number_reads w16 (2 ^ 16) wide16) _ u.rest (kind, rest) u.took.rest_fits u.goes_on in
    let w = step _ _ _ (stretch_reads v.x) _ v.rest (kind, rest) v.took.rest_fits v.goes_on in
    let made : OpKind = insert s.x t.x u.x w.x in
    let g = passed (fits_in_file t.x v.x && is_cause site t.x s.x) (made, w.rest) (kind, rest) w.goes_on in
    let tests = and_parts (fits_in_file t.x v.x) (is_cause site t.x s.x) g.0 in
    let in_file = and_parts (ltb 0 v.x && leb v.x MAX_INSERT) (leb (t.x + v.x) MAX_FILE) tests.0 in
    let lengths = and_parts (ltb 0 v.x) (leb v.x MAX_INSERT) in_file.0 in
    let some : 0 < v.x = ltb-true _ _ lengths.0 in
    let few : v.x ≤ MAX_INSERT = leb-true _ _ lengths.1 in
    let inside : t.x + v.x ≤ MAX_FILE = leb-true _ _ in_file.1 in
    let whole : bytes ≡ kind_spelling made ++ w.rest =
    s.took.parts
    ∙ ap (λ (x : List ℕ). anchor_spelling s.x ++ x) (t.took.parts
    ∙ ap (λ (x : List ℕ). number_spelling w32 t.x ++ x) (u.took.parts
    ∙ ap (λ (x : List ℕ). looks_spelling u.x ++ x) (v.took.parts
    ∙ ap (λ (n : ℕ). number_spelling w16 n ++ v.rest) (sym w.took.in_range)
    ∙ ap (λ (x : List ℕ). number_spelling w16 (length w.x) ++ x) w.took.parts)))
    ∙ sym (insert_split s.x t.x u.x w.x w.rest) in
    let is : IsInsert site s.x t.x u.x w.x = record {
      caused = (is_cause_is site t.x s.x).0 tests.1;
      valid_looks = u.took.in_range;
      some = omega (arith, w.took.in_range, some);
      few = omega (arith, w.took.in_range, few);
      in_file = omega (arith, w.took.in_range, inside);
      valid_bytes = front_bytes w.x w.rest v.rest w.took.parts v.took.rest_fits;
    } in
    subst (λ (p : OpKind × List ℕ). Took kind_spelling (IsOfKind 1 site) bytes p.0 p.1) g.1
    (record { parts = whole; rest_fits = w.took.rest_fits; in_range = record { number_is = refl; is = is } })

insert_again : (site : ℕ) (cause : Anchor) (at : ℕ) (looks : Looks) (bytes rest : List ℕ)
    → IsInsert site cause at looks bytes → insert_at site (kind_spelling (insert cause at looks bytes)
    ++ rest) ≡ Some (insert cause at looks bytes, rest)
unfolding insert_at
insert_again site cause at looks bytes rest is =
    let caused : is_cause site at cause ≡ true = (is_cause_is site at cause).1 is.caused in
    let fitting : fits_in_file at (length bytes) ≡ true =
    and_from (ltb 0 (length bytes) && leb (length bytes) MAX_INSERT) (leb (at + length bytes) MAX_FILE)
    (and_from _ _ (lt-ltb _ _ is.some) (le-leb _ _ is.few)) (le-leb _ _ is.in_file) in
    let test : (fits_in_file at (length bytes) && is_cause site at cause) ≡ true =
    and_from _ _ fitting caused in
    ap (insert_at site) (insert_split cause at looks bytes rest)
    ∙ rw (
      anchor_reads.again cause (number_spelling w32 at ++ (looks_spelling looks
          ++ (number_spelling w16 (length bytes) ++ (bytes ++ rest)))) (anchor_of_cause site at cause
          caused),
      (number_reads w32 (2 ^ 32) wide32).again at (looks_spelling looks
          ++ (number_spelling w16 (length bytes) ++ (bytes ++ rest))) (omega (arith, is.in_file)),
      looks_reads.again looks (number_spelling w16 (length bytes) ++ (bytes ++ rest)) is.valid_looks,
      (number_reads w16 (2 ^ 16) wide16).again (length bytes) (bytes ++ rest) (omega (arith, is.few)),
      (stretch_reads (length bytes)).again bytes rest refl,
      test,
    ) refl

delete_takes : (site : ℕ) (bytes : List ℕ) (kind : OpKind) (rest : List ℕ) → IsBytes bytes → delete_at bytes
    ≡ Some (kind, rest) → Took kind_spelling (IsOfKind 2 site) bytes kind rest
unfolding delete_at
delete_takes site bytes kind rest fits e =
    let s = step _ _ _ set_reads _ bytes (kind, rest) fits e in
    subst (λ (p : OpKind × List ℕ). Took kind_spelling (IsOfKind 2 site) bytes p.0 p.1)
    (some_is _ _ s.goes_on)
    (record {
      parts = s.took.parts;
      rest_fits = s.took.rest_fits;
      in_range = record {
        number_is = refl;
        is =
            s.took.in_range;
      };
    })

delete_again : (names : List Range) (rest : List ℕ) → IsNamed names
    → delete_at (kind_spelling (delete names) ++ rest) ≡ Some (delete names, rest)
unfolding delete_at
delete_again names rest is = rw (set_reads.again names rest is) refl

restore_takes : (site : ℕ) (bytes : List ℕ) (kind : OpKind) (rest : List ℕ) → IsBytes bytes → restore_at bytes
    ≡ Some (kind, rest) → Took kind_spelling (IsOfKind 4 site) bytes kind rest
unfolding restore_at
restore_takes site bytes kind rest fits e =
    let s = step _ _ _ set_reads _ bytes (kind, rest) fits e in
    subst (λ (p : OpKind × List ℕ). Took kind_spelling (IsOfKind 4 site) bytes p.0 p.1)
    (some_is _ _ s.goes_on)
    (record {
      parts = s.took.parts;
      rest_fits = s.took.rest_fits;
      in_range = record { number_is = refl; is = s.took.in_range };
    })

restore_again : (names : List Range) (rest : List ℕ) → IsNamed names
    → restore_at (kind_spelling (restore names) ++ rest) ≡ Some (restore names, rest)
unfolding restore_at
restore_again names rest is = rw (set_reads.again names rest is) refl

change_split : (sel : Selection) (looks : Looks) (names : List Range) (rest : List ℕ)
    → kind_spelling (change_looks sel looks names) ++ rest ≡ sel_spelling sel
    ++ (selected_spelling sel looks ++ (set_spelling names ++ rest))
change_split sel looks names rest =
    ap (λ (x : List ℕ). bits_of sel ∷ x) (append_assoc (selected_spelling sel looks) (set_spelling names)
    rest)

change_takes : (site : ℕ) (bytes : List ℕ) (kind : OpKind) (rest : List ℕ) → IsBytes bytes → change_at bytes
    ≡ Some (kind, rest) → Took kind_spelling (IsOfKind 3 site) bytes kind rest
unfolding change_at
change_takes site bytes kind rest fits e =
    let s = step _ _ _ sel_reads _ bytes (kind, rest) fits e in
    let t = step _ _ _ (selected_looks_reads s.x) _ s.rest (kind, rest) s.took.rest_fits s.goes_on in
    let u = step _ _ _ set_reads _ t.rest (kind, rest) t.took.rest_fits t.goes_on in
    let whole : bytes ≡ kind_spelling (change_looks s.x t.x u.x) ++ u.rest =
    s.took.parts ∙ ap (λ (x : List ℕ). bits_of s.x ∷ x) (t.took.parts
    ∙ ap (λ (x : List ℕ). selected_spelling s.x t.x ++ x) u.took.parts)
    ∙ sym (change_split s.x t.x u.x u.rest) in
    let is : IsChange s.x t.x u.x = record {
      some = s.took.in_range;
      valid_looks =
          t.took.in_range.0;
      plain_elsewhere = t.took.in_range.1;
      named = u.took.in_range;
    } in
    subst (λ (p : OpKind × List ℕ). Took kind_spelling (IsOfKind 3 site) bytes p.0 p.1)
    (some_is _ _ u.goes_on)
    (record { parts = whole; rest_fits = u.took.rest_fits; in_range = record { number_is = refl; is = is } })

change_again : (sel : Selection) (looks : Looks) (names : List Range) (rest : List ℕ)
    → IsChange sel looks names → change_at (kind_spelling (change_looks sel looks names) ++ rest)
    ≡ Some (change_looks sel looks names, rest)
unfolding change_at
change_again sel looks names rest is =
    ap change_at (change_split sel looks names rest)
    ∙ rw (
      sel_reads.again sel (selected_spelling sel looks ++ (set_spelling names ++ rest)) is.some,
      (selected_looks_reads sel).again looks (set_spelling names
          ++ rest) (is.valid_looks, is.plain_elsewhere),
      set_reads.again names rest is.named,
    ) refl

kind_takes : (number site : ℕ) (bytes : List ℕ) (kind : OpKind) (rest : List ℕ) → IsBytes bytes
    → kind_at number site bytes ≡ Some (kind, rest)
    → Took kind_spelling (IsOfKind number site) bytes kind rest
unfolding kind_at
kind_takes number site bytes kind rest fits e = one (eqb number 1) refl e
  where
    four : (b : Bool) → eqb number 4 ≡ b → cond b (restore_at bytes) None ≡ Some (kind, rest)
        → Took kind_spelling (IsOfKind number site) bytes kind rest
    four true is h =
        subst (λ (n : ℕ). Took kind_spelling (IsOfKind n site) bytes kind rest) (sym (eqb-true number 4 is))
        (restore_takes site bytes kind rest fits h)
    four false is h = absurd cc

    three : (b : Bool) → eqb number 3 ≡ b
        → cond b (change_at bytes) (cond (eqb number 4) (restore_at bytes) None) ≡ Some (kind, rest)
        → Took kind_spelling (IsOfKind number site) bytes kind rest
    three true is h =
        subst (λ (n : ℕ). Took kind_spelling (IsOfKind n site) bytes kind rest) (sym (eqb-true number 3 is))
        (change_takes site bytes kind rest fits h)
    three false is h = four (eqb number 4) refl h

    two : (b : Bool) → eqb number 2 ≡ b
        → cond b (delete_at bytes) (cond (eqb number 3) (change_at bytes)
        (cond (eqb number 4) (restore_at bytes) None)) ≡ Some (kind, rest)
        → Took kind_spelling (IsOfKind number site) bytes kind rest
    two true is h =
        subst (λ (n : ℕ). Took kind_spelling (IsOfKind n site) bytes kind rest) (sym (eqb-true number 2 is))
        (delete_takes site bytes kind rest fits h)
    two false is h = three (eqb number 3) refl h

    one : (b : Bool) → eqb number 1 ≡ b
        → cond b (insert_at site bytes) (cond (eqb number 2) (delete_at bytes)
        (cond (eqb number 3) (change_at bytes) (cond (eqb number 4) (restore_at bytes) None)))
        ≡ Some (kind, rest)
        → Took kind_spelling (IsOfKind number site) bytes kind rest
    one true is h =
        subst (λ (n : ℕ). Took kind_spelling (IsOfKind n site) bytes kind rest) (sym (eqb-true number 1 is))
        (insert_takes site bytes kind rest fits h)
    one false is h = two (eqb number 2) refl h

kind_again : (site : ℕ) (kind : OpKind) (rest : List ℕ) → IsKind site kind
    → kind_at (kind_byte kind) site (kind_spelling kind ++ rest) ≡ Some (kind, rest)
unfolding kind_at
kind_again site (insert cause at looks bytes) rest is = insert_again site cause at looks bytes rest is
kind_again site (delete names) rest is = delete_again names rest is
kind_again site (restore names) rest is = restore_again names rest is
kind_again site (change_looks sel looks names) rest is = change_again sel looks names rest is

kind_reads : (number site : ℕ) → Reads (kind_at number site) kind_spelling (IsOfKind number site)
kind_reads number site = record {
  takes = kind_takes number site;
  again = λ kind rest h. subst (λ (n : ℕ). kind_at n site (kind_spelling kind ++ rest) ≡ Some (kind, rest))
      h.number_is (kind_again site kind rest h.is);
}

-- ---- headers

abbrev IsAny : ℕ → Type 0
IsAny n = Unit {0}

tag_takes : (bytes : List ℕ) (kind : ℕ) (rest : List ℕ) → IsBytes bytes → message_tag_at bytes ≡ Some (kind, rest)
    → Took tag_spelling IsAny bytes kind rest
unfolding tag_spelling
tag_takes [] kind rest fits e = absurd cc
tag_takes (o ∷ []) kind rest fits e = absurd cc
tag_takes (o ∷ t ∷ []) kind rest fits e = absurd cc
tag_takes (o ∷ t ∷ version ∷ []) kind rest fits e = absurd cc
tag_takes (o ∷ t ∷ version ∷ k ∷ bytes) kind rest fits e =
    let g = passed (eqb o 79 && eqb t 84 && eqb version (version_byte k)) (k, bytes) (kind, rest) e in
    let last = and_parts (eqb o 79 && eqb t 84) (eqb version (version_byte k)) g.0 in
    let front = and_parts (eqb o 79) (eqb t 84) last.0 in
    let o-is : o ≡ 79 = eqb-true _ _ front.0 in
    let t-is : t ≡ 84 = eqb-true _ _ front.1 in
    let version-is : version ≡ version_byte k = eqb-true _ _ last.1 in
    subst (λ (p : ℕ × List ℕ). Took tag_spelling IsAny (o ∷ t ∷ version ∷ k ∷ bytes) p.0 p.1) g.1
    (record {
      parts = rw (o-is, t-is, version-is) refl;
      rest_fits =
          λ i. fits (suc (suc (suc (suc i))));
      in_range = tt;
    })

tag_reads : Reads message_tag_at tag_spelling IsAny
unfolding tag_spelling
tag_reads = record {
  takes = tag_takes;
  again = λ kind rest h. rw (eq-eqb (version_byte kind) (version_byte kind) refl) refl;
}

abbrev IsStamp : ℕ → Type 0
IsStamp stamp = (0 < stamp) × (stamp ≤ MAX_STAMP)

stamp_reads : Reads stamp_at (number_spelling w64) IsStamp
unfolding stamp_at
stamp_reads =
    let number = positive_reads w64 (2 ^ 64) wide64 in
    record {
      takes = λ bytes stamp rest fits e.
          let s = step _ _ _ number _ bytes (stamp, rest) fits e in
          let g = passed (leb s.x MAX_STAMP) (s.x, s.rest) (stamp, rest) s.goes_on in
          subst (λ (p : ℕ × List ℕ). Took (number_spelling w64) IsStamp bytes p.0 p.1) g.1
          (record {
            parts = s.took.parts;
            rest_fits = s.took.rest_fits;
            in_range =
                (s.took.in_range.0, leb-true _ _ g.0);
          });
      again = λ stamp rest is.
          let below : leb stamp MAX_STAMP ≡ true = le-leb _ _ is.1 in
          rw (number.again stamp rest (is.0, omega (arith, is.1)), below) refl;
    }

-- the fields of a header are in range
record IsHeader (h : Header) : Type 0 where
  text : IsPositive (2 ^ 16) h.text
  site : IsPositive (2 ^ 16) h.site
  seq : IsPositive (2 ^ 32) h.seq
  stamp : IsStamp h.stamp

abbrev spelling_of_header : Header → List ℕ
spelling_of_header h = header_spelling h.kind h.text h.site h.seq h.stamp

header_split : (h : Header) (rest : List ℕ)
    → spelling_of_header h ++ rest ≡ tag_spelling h.kind ++ (number_spelling w16 h.text
    ++ (number_spelling w16 h.site
    ++ (number_spelling w32 h.seq ++ (number_spelling w64 h.stamp ++ rest))))
header_split h rest = simp append_assoc

header_reads : Reads header_at spelling_of_header IsHeader
unfolding header_at
header_reads =
    let number = positive_reads w16 (2 ^ 16) wide16 in
    let seq = positive_reads w32 (2 ^ 32) wide32 in
    record {
      takes = λ bytes h rest fits e.
          let r = step _ _ _ tag_reads _ bytes (h, rest) fits e in
          let s = step _ _ _ number _ r.rest (h, rest) r.took.rest_fits r.goes_on in
          let t = step _ _ _ number _ s.rest (h, rest) s.took.rest_fits s.goes_on in
          let u = step _ _ _ seq _ t.rest (h, rest) t.took.rest_fits t.goes_on in
          let v = step _ _ _ stamp_reads _ u.rest (h, rest) u.took.rest_fits u.goes_on in
          let made : Header = record { kind = r.x; text = s.x; site = t.x; seq = u.x; stamp = v.x } in
          let whole : bytes ≡ spelling_of_header made ++ v.rest =
          r.took.parts
          ∙ ap (λ (x : List ℕ). tag_spelling r.x ++ x) (s.took.parts
          ∙ ap (λ (x : List ℕ). number_spelling w16 s.x ++ x) (t.took.parts
          ∙ ap (λ (x : List ℕ). number_spelling w16 t.x ++ x) (u.took.parts
          ∙ ap (λ (x : List ℕ). number_spelling w32 u.x ++ x) v.took.parts)))
          ∙ sym (header_split made v.rest) in
          subst (λ (p : Header × List ℕ). Took spelling_of_header IsHeader bytes p.0 p.1)
          (some_is _ _ v.goes_on)
          (record {
            parts = whole;
            rest_fits = v.took.rest_fits;
            in_range =
                record {
                  text = s.took.in_range;
                  site = t.took.in_range;
                  seq = u.took.in_range;
                  stamp =
                      v.took.in_range;
                };
          });
      again = λ h rest is.
          let after_seq : List ℕ = number_spelling w64 h.stamp ++ rest in
          let after_site : List ℕ = number_spelling w32 h.seq ++ after_seq in
          let after_text : List ℕ = number_spelling w16 h.site ++ after_site in
          ap header_at (header_split h rest)
          ∙ rw (
            tag_reads.again h.kind (number_spelling w16 h.text ++ after_text) tt,
            number.again h.text
                after_text is.text,
            number.again h.site after_site is.site,
            seq.again h.seq after_seq is.seq,
            stamp_reads.again h.stamp rest is.stamp,
          ) refl;
    }

-- ---- whole messages

abbrev header_of : Operation → Header
header_of op = record {
  kind = kind_byte op.kind;
  text = op.text;
  site = op.site;
  seq = op.seq;
  stamp =
      op.stamp;
}

operation_reads : Reads operation_at spelling HasSpelling
unfolding operation_at
operation_reads = record {
  takes = λ bytes op rest fits e.
      let s = step _ _ _ header_reads _ bytes (op, rest) fits e in
      let t = step _ _ _ (kind_reads s.x.kind s.x.site) _ s.rest (op, rest) s.took.rest_fits s.goes_on in
      let made : Operation = operation_of s.x t.x in
      let number : kind_byte t.x ≡ s.x.kind = t.took.in_range.number_is in
      let header : List ℕ = spelling_of_header s.x in
      let whole : bytes ≡ spelling made ++ t.rest =
      s.took.parts
      ∙ ap (λ (x : List ℕ). header ++ x) t.took.parts
      ∙ sym (append_assoc header (kind_spelling t.x) t.rest)
      ∙ ap (λ (n : ℕ). (header_spelling n s.x.text s.x.site s.x.seq s.x.stamp ++ kind_spelling t.x)
      ++ t.rest) (sym number) in
      let is : HasSpelling made = record {
        text = s.took.in_range.text;
        site = s.took.in_range.site;
        seq =
            s.took.in_range.seq;
        stamp = s.took.in_range.stamp;
        kind = t.took.in_range.is;
      } in
      subst (λ (p : Operation × List ℕ). Took spelling HasSpelling bytes p.0 p.1) (some_is _ _ t.goes_on)
      (record { parts = whole; rest_fits = t.took.rest_fits; in_range = is });
  again = λ op rest is.
      let header : IsHeader (header_of op) = record {
        text = is.text;
        site = is.site;
        seq = is.seq;
        stamp =
            is.stamp;
      } in
      ap operation_at (append_assoc (spelling_of_header (header_of op)) (kind_spelling op.kind) rest)
      ∙ rw (
        header_reads.again (header_of op) (kind_spelling op.kind ++ rest) header,
        kind_again op.site
            op.kind rest is.kind,
      ) refl;
}

pub message_takes : (bytes : List ℕ) (op : Operation) → IsBytes bytes → message_of bytes ≡ Some op
    → HasSpelling op × (bytes ≡ spelling op)
unfolding message_of
message_takes bytes op fits e =
    let s = step _ _ _ operation_reads _ bytes op fits e in
    let g = passed (eqb (length s.rest) 0) s.x op s.goes_on in
    let nothing : s.rest ≡ [] = nil_from_length s.rest (eqb-true _ _ g.0) in
    let whole : bytes ≡ spelling s.x = s.took.parts ∙ ap (λ (x : List ℕ). spelling s.x ++ x) nothing
    ∙ append-nil (spelling s.x) in
    subst (λ (o : Operation). HasSpelling o × (bytes ≡ spelling o)) g.1 (s.took.in_range, whole)

pub message_again : (op : Operation) → HasSpelling op → message_of (spelling op) ≡ Some op
unfolding message_of
message_again op is =
    let read : operation_at (spelling op) ≡ Some (op, []) = ap operation_at (sym (append-nil (spelling op)))
    ∙ operation_reads.again op [] is in
    rw read refl

-- what follows a spelling is nothing, where the whole is a spelling too
pub nothing_follows : (a b : Operation) (rest : List ℕ) → HasSpelling a → HasSpelling b
    → spelling b ≡ spelling a ++ rest → rest ≡ []
nothing_follows a b rest is is' e =
    let read : ◌≡◌ {A = Option (Operation × List ℕ)} (Some (a, rest)) (Some (b, [])) =
    sym (operation_reads.again a rest is) ∙ ap operation_at (sym e ∙ sym (append-nil (spelling b)))
    ∙ operation_reads.again b [] is' in
    ap (λ (p : Operation × List ℕ). p.1) (some_is _ _ read)

pub same_operation : (a b : Operation) → HasSpelling a → HasSpelling b → spelling a ≡ spelling b → a ≡ b
same_operation a b is is' e = some_is a b (sym (message_again a is) ∙ ap message_of e ∙ message_again b is')

-- ---- what a function makes of a message

pub made_is : (bytes : List ℕ) (r : Result Operation Refusal) → IsBytes bytes
    → FindsWithMemory (λ op. op) r (message_of bytes) → IfOk r (λ op. bytes ≡ spelling op)
made_is bytes (Ok op) fits made = (message_takes bytes op fits made).1
made_is bytes (Err e) fits made = tt

pub made_only : (bytes : List ℕ) (r : Result Operation Refusal) (op : Operation) → HasSpelling op
    → bytes ≡ spelling op → FindsWithMemory (λ op. op) r (message_of bytes) → IfOk r (λ decoded. decoded ≡ op)
made_only bytes (Ok decoded) op is e made =
    some_is decoded op (sym made ∙ ap message_of e ∙ message_again op is)
made_only bytes (Err refusal) op is e made = tt

-- nothing is read where the bytes spell no operation
none_spelled : (bytes : List ℕ) → IsBytes bytes → (message_of bytes ≡ None) ↔ SpellsNone bytes
none_spelled bytes fits = (λ none op is e. not_none op is e none, λ none. go (message_of bytes) refl none)
  where
    not_none : (op : Operation) → HasSpelling op → bytes ≡ spelling op → message_of bytes ≡ None → ⊥
    not_none op is e none = let some : message_of bytes ≡ Some op = ap message_of e ∙ message_again op is in
        absurd cc

    go : (o : Option Operation) → message_of bytes ≡ o → SpellsNone bytes → message_of bytes ≡ None
    go None is none = is
    go (Some op) is none = let read = message_takes bytes op fits is in absurd (none op read.0 read.1)

pub made_malformed : (bytes : List ℕ) (r : Result Operation Refusal) → IsBytes bytes
    → FindsWithMemory (λ op. op) r (message_of bytes) → IsErrOf r Malformed ↔ SpellsNone bytes
made_malformed bytes (Ok op) fits made = (
  λ h. absurd (cc),
  λ none. let nothing =
      (none_spelled bytes fits).1 none in absurd (cc),
)
made_malformed bytes (Err e) fits (inl h) = (λ f. (none_spelled bytes fits).0 h.1, λ none. ap Err h.0)
made_malformed bytes (Err e) fits (inr h) = (
  λ f. absurd (cc),
  λ none. let nothing = (none_spelled bytes fits).1 none in absurd (cc),
)
