-- What operations tell, with one operation more.
use Rattle.std.proofs.Common.{◌≡◌, ℕ, ◌-◌, Bool, true, false, cond, eqb, List, [], ◌∷◌}
use Rattle.std.proofs.Common.{filter, Option, Some, None, refl, sym, ap, subst, ◌∙◌, inl, inr, arith}
use Rattle.std.specs.Prelude.{nat_eq, is_some}
use Rattle.std.specs.Option.{option_map_or}
use Rattle.std.specs.Map.{lookup}
use Rattle.std.proofs.lemmas.Bool.{cases_Bool, eqb-true, eqb-false, eq-eqb, ne_eqb, cond-true, cond-false}
use Rattle.indexmap.specs.IndexMap.{insert_entry}
use Rattle.char_files.specs.declared.name.Anchor.{Anchor}
use Rattle.char_files.specs.declared.name.Anchor.TheVariants.{Root, At}
use Rattle.operations.specs.NameSet.{Range, IsNamed, IsRange}
use Rattle.operations.specs.Operation.{Operation, OpKind, insert, delete, restore, change_looks}
use Rattle.operations.specs.Spelling.{HasSpelling, IsKind}
use Rattle.packed.specs.declared.expected.Expected.{Expected}
use Rattle.packed.specs.Told.{at_first, before_first, own_caret_after, after_one_more, Told, nothing_told, nothing_begun, noted, has_begun, begun_at, expected, told_on, told_after}
use Rattle.packed.specs.Told.{IsOffsetInFile, CaretsAreInFiles, expected_after, OwnOperationsTell}

eqb_flips : (x y : ℕ) → eqb x y ≡ eqb y x
eqb_flips x y =
    elim (cases_Bool (eqb x y)) [
      | inl is ↦ is ∙ sym (eq-eqb y x (sym (eqb-true x y is)))
      | inr apart ↦ apart ∙ sym (ne_eqb y x (λ is. eqb-false x y apart (sym is)))
    ]

module _ {X : Type 0} where
  -- a key has the value that was put there, and each other key what it had
  pub lookup_put : (es : List (ℕ × X)) (k : ℕ) (v : X) (q : ℕ)
      → lookup (nat_eq q) (insert_entry nat_eq es k v) ≡ cond (eqb k q) (Some v) (lookup (nat_eq q) es)
  lookup_put [] k v q = ap (λ (b : Bool). cond b (Some v) None) (eqb_flips q k)
  lookup_put (e ∷ es) k v q =
      elim (cases_Bool (eqb k e.0)) [
        | inl here ↦
            let at : k ≡ e.0 = eqb-true k e.0 here in
            ap (λ (l : List (ℕ × X)). lookup (nat_eq q) l) (cond-true (eqb k e.0) ((e.0, v) ∷ es) _ here)
            ∙ replaced e es k v q at
        | inr past ↦
            ap (λ (l : List (ℕ × X)). lookup (nat_eq q) l) (cond-false (eqb k e.0) _ (e ∷ insert_entry nat_eq es k v) past)
            ∙ ap (λ (o : Option X). cond (eqb q e.0) (Some e.1) o) (lookup_put es k v q)
            ∙ passed_by e es k v q past
      ]
    where
      replaced : (e : ℕ × X) (es : List (ℕ × X)) (k : ℕ) (v : X) (q : ℕ) → k ≡ e.0
          → cond (eqb q e.0) (Some v) (lookup (nat_eq q) es)
          ≡ cond (eqb k q) (Some v) (cond (eqb q e.0) (Some e.1) (lookup (nat_eq q) es))
      replaced e es k v q at =
          elim (cases_Bool (eqb q e.0)) [
            | inl is ↦
                let there : eqb k q ≡ true = eq-eqb k q (at ∙ sym (eqb-true q e.0 is)) in
                cond-true (eqb q e.0) _ _ is ∙ sym (cond-true (eqb k q) _ _ there)
            | inr apart ↦
                let not : eqb k q ≡ false = ne_eqb k q (λ same. eqb-false q e.0 apart (sym same ∙ at)) in
                cond-false (eqb q e.0) _ _ apart
                ∙ sym (cond-false (eqb k q) _ _ not ∙ cond-false (eqb q e.0) _ _ apart)
          ]

      passed_by : (e : ℕ × X) (es : List (ℕ × X)) (k : ℕ) (v : X) (q : ℕ) → eqb k e.0 ≡ false
          → cond (eqb q e.0) (Some e.1) (cond (eqb k q) (Some v) (lookup (nat_eq q) es))
          ≡ cond (eqb k q) (Some v) (cond (eqb q e.0) (Some e.1) (lookup (nat_eq q) es))
      passed_by e es k v q past =
          elim (cases_Bool (eqb q e.0)) [
            | inl is ↦
                let not : eqb k q ≡ false = ne_eqb k q (λ same. eqb-false k e.0 past (same ∙ eqb-true q e.0 is)) in
                cond-true (eqb q e.0) _ _ is
                ∙ sym (cond-false (eqb k q) _ _ not ∙ cond-true (eqb q e.0) _ _ is)
            | inr apart ↦
                cond-false (eqb q e.0) _ _ apart
                ∙ ap (λ (o : Option X). cond (eqb k q) (Some v) o) (sym (cond-false (eqb q e.0) _ _ apart))
          ]

-- what is noted of a site is expected of it, and leaves what is expected of the others
pub expected_noted : (told : Told) (of : ℕ) (new : Expected) (site : ℕ)
    → expected (noted told of new) site ≡ cond (eqb of site) new (expected told site)
expected_noted told of new site =
    ap (λ (o : Option Expected). option_map_or (λ (e : Expected). e) o at_first) (lookup_put told.sites of new site)
    ∙ by (eqb of site) new (lookup (nat_eq site) told.sites)
  where
    by : (b : Bool) (new : Expected) (o : Option Expected)
        → option_map_or (λ (e : Expected). e) (cond b (Some new) o) at_first
        ≡ cond b new (option_map_or (λ (e : Expected). e) o at_first)
    by true new o = refl
    by false new o = refl

-- something is told of it, and of those of which something was
pub has_begun_noted : (told : Told) (of : ℕ) (new : Expected) (site : ℕ)
    → has_begun (noted told of new) site ≡ cond (eqb of site) true (has_begun told site)
has_begun_noted told of new site =
    ap (λ (o : Option Expected). is_some o) (lookup_put told.sites of new site) ∙ by (eqb of site)
  where
    by : (b : Bool) → is_some (cond b (Some new) (lookup (nat_eq site) told.sites)) ≡ cond b true (has_begun told site)
    by true = refl
    by false = refl

-- where nothing is told of a site its first operation is expected
pub not_begun : (told : Told) (site : ℕ) → has_begun told site ≡ false → expected told site ≡ at_first
not_begun told site none = by (lookup (nat_eq site) told.sites) none
  where
    by : (o : Option Expected) → is_some o ≡ false → option_map_or (λ (e : Expected). e) o at_first ≡ at_first
    by None e = refl
    by (Some new) e = absurd cc

-- one operation more tells of its own site alone
pub expected_on : (told : Told) (op : Operation) (site : ℕ)
    → expected (told_on told op) site ≡ cond (eqb op.site site) (after_one_more (expected told op.site) op) (expected told site)
expected_on told op site = expected_noted told op.site (after_one_more (expected told op.site) op) site

before_in : (names : List Range) → IsNamed names → IsOffsetInFile (before_first names)
before_in [] named = tt
before_in (r ∷ names) named = by (eqb r.at 0)
  where
    range : IsRange r
    range = named.set.ranges 0 r (omega arith)

    by : (b : Bool) → IsOffsetInFile (cond b Root (At (record { site = r.site; off = r.at - 1 })))
    by true = tt
    by false = omega (arith, range.2, range.3)

caret_in : (site : ℕ) (caret : Anchor) (kind : OpKind) → IsKind site kind → IsOffsetInFile caret
    → IsOffsetInFile (own_caret_after site caret kind)
caret_in site caret (insert cause at looks bytes) is below = omega (arith, is.some, is.in_file)
caret_in site caret (delete names) is below = before_in names is
caret_in site caret (restore names) is below = below
caret_in site caret (change_looks sel looks names) is below = below

-- the carets stay within the files
pub carets_noted : (told : Told) (of : ℕ) (new : Expected) → IsOffsetInFile new.caret → CaretsAreInFiles told
    → CaretsAreInFiles (noted told of new)
carets_noted told of new here below site =
    subst (λ (e : Expected). IsOffsetInFile e.caret) (sym (expected_noted told of new site)) (by (eqb of site))
  where
    by : (b : Bool) → IsOffsetInFile (cond b new (expected told site)).caret
    by true = here
    by false = below site

pub caret_on : (told : Told) (op : Operation) → HasSpelling op → CaretsAreInFiles told
    → IsOffsetInFile (after_one_more (expected told op.site) op).caret
caret_on told op is below = caret_in op.site (expected told op.site).caret op.kind is.kind (below op.site)

pub carets_on : (told : Told) (op : Operation) → HasSpelling op → CaretsAreInFiles told → CaretsAreInFiles (told_on told op)
carets_on told op is below =
    carets_noted told op.site (after_one_more (expected told op.site) op) (caret_on told op is below) below

pub carets_begun : (told : Told) (site seq stamp len : ℕ) → CaretsAreInFiles told
    → CaretsAreInFiles (begun_at told site seq stamp len)
carets_begun told site seq stamp len below =
    carets_noted told site (record at_first { seq = seq; stamp = stamp; len = len }) tt below

pub no_carets : CaretsAreInFiles nothing_told
no_carets site = tt

pub none_begun : CaretsAreInFiles nothing_begun
none_begun site = tt

-- ---- a site's own operations

own_tell : (ops : List Operation) (told : Told) (site : ℕ)
    → expected (told_after told ops) site ≡ expected_after (expected told site) (filter (λ (op : Operation). eqb op.site site) ops)
own_tell [] told site = refl
own_tell (op ∷ ops) told site =
    own_tell ops (told_on told op) site
    ∙ ap (λ (e : Expected). expected_after e (filter (λ (op : Operation). eqb op.site site) ops)) (expected_on told op site)
    ∙ by (eqb op.site site) refl
  where
    rest : List Operation
    rest = filter (λ (op : Operation). eqb op.site site) ops

    by : (b : Bool) → eqb op.site site ≡ b
        → expected_after (cond b (after_one_more (expected told op.site) op) (expected told site)) rest
        ≡ expected_after (expected told site) (cond b (op ∷ rest) rest)
    by true e = ap (λ (s : ℕ). expected_after (after_one_more (expected told s) op) rest) (eqb-true op.site site e)
    by false e = refl

pub own_operations_tell : OwnOperationsTell
own_operations_tell ops site = own_tell ops nothing_told site
