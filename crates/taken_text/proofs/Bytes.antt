-- Files hold the bytes of one operation more.
use Rattle.std.proofs.Common.{◌≡◌, ℕ, ◌+◌, ◌-◌, ◌<◌, false, eqb, eq-eqb, List, [], ◌∷◌, ◌++◌, length, sym, ap, subst, ◌∙◌, inl, inr, arith}
use Rattle.std.specs.Prelude.{slice_index}
use Rattle.std.proofs.lemmas.Bool.Decides.{eqb_tells}
use Rattle.std.proofs.lemmas.List.{get_or_append_left, get_or-append_right, length-append}
use Rattle.std.proofs.lemmas.List.Elements.{Contains-push_cases}
use Rattle.looks.specs.declared.looks.Looks.{Looks}
use Rattle.char_files.specs.CharFiles.{FilesBySite, bytes_of, OtherSitesStay, SameBytes}
use Rattle.char_files.specs.CharName.{CharName}
use Rattle.char_files.specs.declared.name.Anchor.{Anchor}
use Rattle.operations.specs.Operation.{Operation, OpKind, insert, appended_len, Inserts, InsertsBy}
use Rattle.tree_order.specs.RegisterLaws.{InsertsNone}
use Rattle.tree_order.specs.Tree.{IsChar, IsInsertOf, byte_by}
use Rattle.set_laws.specs.Fronts.{file_len, IsHere}
use Rattle.set_laws.specs.Growing.{AreCountedOn}
use Rattle.taken_text.specs.Taken.{HoldBytes}

-- one operation more makes its site's file longer by what it appends, and no other
len_of_site : (ops : List Operation) (op : Operation) → AreCountedOn ops op → (site : ℕ) → op.site ≡ site → file_len (ops ++ op ∷ []) site ≡ file_len ops site + appended_len op.kind
len_of_site ops op counted site e = rw (eq-eqb op.site site e) at (counted.file site)

len_of_others : (ops : List Operation) (op : Operation) → AreCountedOn ops op → (site : ℕ) → eqb op.site site ≡ false → file_len (ops ++ op ∷ []) site ≡ file_len ops site
len_of_others ops op counted site e = rw e at (counted.file site)

-- what is appended to a site's file where room was made stands after what it had
pub appended : (files mid files' : FilesBySite) (site at : ℕ) (bytes given : List ℕ) → at ≡ site → given ≡ bytes
    → SameBytes files mid → bytes_of files' at ≡ bytes_of mid at ++ given → OtherSitesStay mid at files'
    → (bytes_of files' site ≡ bytes_of files site ++ bytes) × OtherSitesStay files site files'
appended files mid files' site at bytes given there same unchanged put others = (
  subst (λ (s : ℕ). bytes_of files' s ≡ bytes_of files s ++ bytes) there
      (put ∙ ap (λ (bs : List ℕ). bs ++ given) (unchanged at) ∙ ap (λ (bs : List ℕ). bytes_of files at ++ bs) same),
  λ other differs. others other (λ e. differs (e ∙ there)) ∙ unchanged other,
)

-- a byte of a file stays where more bytes are appended to a site's file
pub byte_stays : (files files' : FilesBySite) (site : ℕ) (bytes : List ℕ) → bytes_of files' site ≡ bytes_of files site ++ bytes
    → OtherSitesStay files site files' → (c : CharName) → c.off < length (bytes_of files c.site)
    → slice_index (bytes_of files' c.site) c.off ≡ slice_index (bytes_of files c.site) c.off
byte_stays files files' site bytes own others c within = elim (eqb_tells c.site site) [
  | inl same ↦
      let is : bytes_of files' c.site ≡ bytes_of files c.site ++ bytes = subst (λ (s : ℕ). bytes_of files' s ≡ bytes_of files s ++ bytes) (sym same.1) own in
      ap (λ (bs : List ℕ). slice_index bs c.off) is ∙ get_or_append_left (bytes_of files c.site) bytes 0 c.off within
  | inr other ↦ ap (λ (bs : List ℕ). slice_index bs c.off) (others c.site other.1)
]

module _ (ops : List Operation) (op : Operation) (files : FilesBySite) (here : (c : CharName) → IsHere ops c → IsChar ops c) (is_here : (c : CharName) → IsChar ops c → IsHere ops c) (counted : AreCountedOn ops op) (hold : HoldBytes ops files) where
  -- a Delete, a Restore or a ChangeLooks leaves the files as they are
  pub hold_no_more : InsertsNone op → appended_len op.kind ≡ 0 → HoldBytes (ops ++ op ∷ []) files
  hold_no_more none appended = record {
    lengths = λ site. elim (eqb_tells op.site site) [
      | inl same ↦ omega (arith, hold.lengths site, len_of_site ops op counted site same.1, appended)
      | inr other ↦ hold.lengths site ∙ sym (len_of_others ops op counted site other.0)
    ];
    bytes = λ c byte (i, is, e). elim (Contains-push_cases ops op i is.held) [
      | inl old ↦ hold.bytes c byte (i, record { held = old; inserts = is.inserts }, e)
      | inr same ↦ absurd (none c (subst (λ (o : Operation). Inserts o c) (sym same) is.inserts))
    ];
  }

  module _ (cause : Anchor) (looks : Looks) (bytes : List ℕ) (files' : FilesBySite) (kind : op.kind ≡ insert cause (file_len ops op.site) looks bytes) (own : bytes_of files' op.site ≡ bytes_of files op.site ++ bytes) (others : OtherSitesStay files op.site files') where
    -- a byte that was there is there still
    old_byte : (c : CharName) → IsHere ops c → slice_index (bytes_of files' c.site) c.off ≡ slice_index (bytes_of files c.site) c.off
    old_byte c h = byte_stays files files' op.site bytes own others c (omega (arith, hold.lengths c.site, h))

    -- the others are the Insert's
    new_byte : (c : CharName) → Inserts op c → byte_by op.kind c ≡ slice_index (bytes_of files' c.site) c.off
    new_byte c h =
        let in_run = subst (λ (k : OpKind). InsertsBy op.site k c) kind h in
        let is : bytes_of files' c.site ≡ bytes_of files op.site ++ bytes = ap (bytes_of files') in_run.0 ∙ own in
        let byte : byte_by op.kind c ≡ slice_index bytes (c.off - file_len ops op.site) = ap (λ (k : OpKind). byte_by k c) kind in
        let at : slice_index (bytes_of files op.site ++ bytes) c.off ≡ slice_index bytes (c.off - file_len ops op.site) =
        get_or-append_right (bytes_of files op.site) bytes (file_len ops op.site) c.off 0 (hold.lengths op.site) in_run.1 in
        byte ∙ sym at ∙ ap (λ (bs : List ℕ). slice_index bs c.off) (sym is)

    -- an Insert's bytes stand after those that its site's file had
    pub hold_more : HoldBytes (ops ++ op ∷ []) files'
    hold_more = record {
      lengths = λ site. elim (eqb_tells op.site site) [
        | inl same ↦
            let is : bytes_of files' site ≡ bytes_of files site ++ bytes = subst (λ (s : ℕ). bytes_of files' s ≡ bytes_of files s ++ bytes) same.1 own in
            let appended : appended_len op.kind ≡ length bytes = ap appended_len kind in
            let len : length (bytes_of files' site) ≡ length (bytes_of files site) + length bytes = ap (length {A = ℕ}) is ∙ length-append (bytes_of files site) bytes in
            omega (arith, len, hold.lengths site, len_of_site ops op counted site same.1, appended)
        | inr other ↦
            let same : bytes_of files' site ≡ bytes_of files site = others site (λ e. other.1 (sym e)) in
            ap (length {A = ℕ}) same ∙ hold.lengths site ∙ sym (len_of_others ops op counted site other.0)
      ];
      bytes = λ c byte (i, is, e). elim (Contains-push_cases ops op i is.held) [
        | inl old ↦
            let was : IsInsertOf ops c i = record { held = old; inserts = is.inserts } in
            hold.bytes c byte (i, was, e) ∙ sym (old_byte c (is_here c (i, was)))
        | inr same ↦ e ∙ ap (λ (o : Operation). byte_by o.kind c) (sym same) ∙ new_byte c (subst (λ (o : Operation). Inserts o c) (sym same) is.inserts)
      ];
    }
