-- A message that keeps its place is the one that a greater admission has there.
use Rattle.std.proofs.Common.{◌≡◌, ℕ, ◌<◌, ◌≤◌, inl, inr, List, take, Contains}
use Rattle.std.proofs.Common.{refl, sym, ap, subst, ◌∙◌, arith}
use Rattle.std.proofs.lemmas.Bool.{cases_lt, cases_eq}
use Rattle.operations.specs.Operation.{Operation}
use Rattle.tree_order.specs.Good.{IsPredecessor}
use Rattle.set_laws.specs.Fronts.{front_of}
use Rattle.set_laws.specs.Verdict.{FollowsOn}
use Rattle.set_laws.proofs.Files.{next_seq}
use Rattle.note_laws.specs.Note.{Note, Entries, Saying, IsHolder, IsOfBase}
use Rattle.note_laws.specs.Chains.{operations, IsOfHolder, HoldsItsPlace, NamesTheOneBefore, ComesNext}
use Rattle.note_laws.specs.Admission.{CountInTurn}
use Rattle.note_laws.specs.Laws.{IsBaseIdentified, AreToldApart, AreAmong, HasOneNext}
use Rattle.note_laws.proofs.InTurn.{one_of_identity, sound_whole}
use Rattle.note_laws.proofs.Lists.{of_op, of_take, index_of}

-- a number has one holder
one_holder : (note : Note) (entries : Entries) (site a b : ℕ) → AreToldApart entries → IsHolder note entries site a
    → IsHolder note entries site b → a ≡ b
one_holder note entries site a b told h k =
    elim (cases_eq site note.number) [
      | inl is ↦ h.founder is ∙ sym (k.founder is)
      | inr other ↦
          let (c, least, on, by) = h.claimed other in
          let (d, least', on', by') = k.claimed other in
          let le : c.rank ≤ d.rank = least.least d least'.made (on ∙ sym on') in
          let ge : d.rank ≤ c.rank = least'.least c least.made (on' ∙ sym on) in
          let equal : c.rank ≡ d.rank = omega arith in
          sym by ∙ (told.ranks c d least.made least'.made equal ∙ by')
    ]

-- two messages of holders with the same one before them are one
one_branch : (note : Note) (entries : Entries) (x y : Saying) → AreToldApart entries → IsOfHolder note entries x
    → IsOfHolder note entries y → x.op.text ≡ y.op.text → x.op.site ≡ y.op.site → x.op.seq ≡ y.op.seq
    → x.before ≡ y.before → x ≡ y
one_branch note entries x y told h k text site seq before =
    let author : x.author ≡ y.author =
    one_holder note entries y.op.site x.author y.author told
    (subst (λ (s : ℕ). IsHolder note entries s x.author) site h.0) k.0 in
    let le : x.hash ≤ y.hash = h.1.least y k.1.made
    (record { author = author; text = text; site = site; seq = seq; before = before }) in
    let ge : y.hash ≤ x.hash = k.1.least x h.1.made (record {
      author = sym author;
      text = sym text;
      site = sym site;
      seq = sym seq;
      before = sym before;
    }) in
    let equal : x.hash ≡ y.hash = omega arith in
    told.hashes x y h.1.made k.1.made equal

-- the message before the next one
pub one_before : (there : List Saying) (s : Saying) → FollowsOn (operations there) s.op → 1 < s.op.seq
    → (q : Saying) × Contains there q × IsPredecessor q.op s.op
one_before there s follows later =
    let (o, held, is) = follows later in
    let (q, here, same) = of_op there o held in
    (q, here, subst (λ (op : Operation). IsPredecessor op s.op) (sym same) is)

module _ (note : Note) (entries more : Entries) (text : ℕ) (p b : List Saying) (x : Saying)
    (in_turn : CountInTurn note more text b) (within : AreAmong p b) (base : IsBaseIdentified note)
    (told : AreToldApart more) (next : ComesNext note entries text p x) (holds : HoldsItsPlace note more x) where
  module _ (c : List Saying) (y : Saying) (inside : AreAmong c b) (other : ComesNext note more text c y)
      (site : x.op.site ≡ y.op.site) (seq : x.op.seq ≡ y.op.seq) where
    -- they name the same one before them
    same_before : NamesTheOneBefore p x → NamesTheOneBefore c y → x.before ≡ y.before
    same_before names names' =
        elim (cases_lt 1 x.op.seq) [
          | inr first ↦
              let counted = next.new.counted in
              names.first (omega arith) ∙ sym (names'.first (omega arith))
          | inl later ↦
              let (q, held, is) = one_before p x next.follows later in
              let (r, there, is') = one_before c y other.follows (omega arith) in
              let on : q.op.site ≡ r.op.site = is.0 ∙ (site ∙ sym is'.0) in
              let after = is.1 in
              let after' = is'.1 in
              let count : q.op.seq ≡ r.op.seq = omega arith in
              let same : q ≡ r =
              one_of_identity note more text b in_turn q r (within q held) (inside r there) on count in
              names.later q held is ∙ (ap (λ (s : Saying). s.hash) same ∙ sym (names'.later r there is'))
        ]

    same_text : x.op.text ≡ y.op.text
    same_text = next.of_text ∙ sym other.of_text

    of_base : Contains note.base x → IsOfBase note y.op.site
    of_base held = (x, held, site)

    same_by_base : Contains note.base x → HoldsItsPlace note more y → x ≡ y
    same_by_base held (inl held') = base x y held held' same_text site seq
    same_by_base held (inr by) = absurd (by.0.free (of_base held))

    same_by_holder : IsOfHolder note more x → HoldsItsPlace note more y → x ≡ y
    same_by_holder by (inl held') = absurd (by.0.free (y, held', sym site))
    same_by_holder by (inr by') =
        elim next.names [
          | inl held ↦ absurd (by.0.free (x, held, refl))
          | inr names ↦ elim other.names [
            | inl held' ↦ absurd (by'.0.free (y, held', refl))
            | inr names' ↦ one_branch note more x y told by by' same_text site seq (same_before names names')
          ]
        ]

    pub same_next : x ≡ y
    same_next = elim holds [
      | inl held ↦ same_by_base held other.holds
      | inr by ↦ same_by_holder by other.holds
    ]

  -- what is there under its identity is the message itself
  pub same_there : (y : Saying) → Contains b y → x.op.site ≡ y.op.site → x.op.seq ≡ y.op.seq → x ≡ y
  same_there y held site seq =
      let (n, at) = index_of b y held in
      same_next (take n b) y (of_take b n) (in_turn n y at).0 site seq

-- a chain has one next message
pub one_next : (note : Note) (entries : Entries) (text : ℕ) (there : List Saying) → CountInTurn note entries text there
    → IsBaseIdentified note → AreToldApart entries → HasOneNext note entries text there
one_next note entries text there in_turn base told x y next other site =
    let sound = sound_whole note entries text there in_turn in
    let at = next_seq (operations there) sound.good x.op next.new next.follows in
    let at' = next_seq (operations there) sound.good y.op other.new other.follows in
    let front = ap (front_of (operations there)) site in
    let seq : x.op.seq ≡ y.op.seq = omega arith in
    same_next note entries entries text there there x in_turn (λ s held. held) base told next next.holds there y
    (λ s held. held) other site seq
