-- A message that is next in its chain over two parts of an admission is as well made over one as over the other: both
-- have the same messages of its number.
use Rattle.std.proofs.Common.{◌≡◌, ℕ, ◌<◌, ◌≤◌, List, Contains}
use Rattle.std.proofs.Common.{sym, ap, subst, ◌∙◌, arith}
use Rattle.char_files.specs.CharName.{CharName}
use Rattle.operations.specs.Operation.{Operation, Begins}
use Rattle.set_laws.specs.Fronts.{file_len, front_of}
use Rattle.set_laws.specs.Sets.{IsPartOf, AreIdentified}
use Rattle.set_laws.specs.Verdict.{IsNew, FollowsOn, FitsFile}
use Rattle.set_laws.proofs.Files.{next_file, next_seq, below_is_held}
use Rattle.set_laws.proofs.Fronts.{up_to_front}
use Rattle.note_laws.specs.Note.{Note, Entries, Saying}
use Rattle.note_laws.specs.Chains.{operations}
use Rattle.note_laws.specs.Admission.{MentionsBeyond, IsWellMade, CountInTurn}
use Rattle.note_laws.specs.Laws.{AreAmong}
use Rattle.note_laws.proofs.InTurn.{IsSound, one_of_identity, sound_whole}
use Rattle.note_laws.proofs.Lists.{has_op, of_op}

-- operations of what is among others are among theirs
pub ops_within : (a b : List Saying) → AreAmong a b → IsPartOf (operations a) (operations b)
ops_within a b within op held =
    let (s, here, is) = of_op a op held in
    subst (Contains (operations b)) is (has_op b s (within s here))

-- the operation follows on after a part of an admission, which doesn't hold it
pub record IsPast (whole part : List Saying) (op : Operation) : Type 0 where
  pub sound : IsSound part
  pub within : AreAmong part whole
  pub new : IsNew (operations part) op
  pub follows : FollowsOn (operations part) op

module _ (note : Note) (entries : Entries) (text : ℕ) (whole : List Saying)
    (in_turn : CountInTurn note entries text whole) where
  known : AreIdentified (operations whole)
  known = (sound_whole note entries text whole in_turn).known

  module _ (a b : List Saying) (x : Saying) (past : IsPast whole a x.op) (past' : IsPast whole b x.op) where
    -- what one has of its number, the other has
    pub own_same : (z : Saying) → Contains a z → z.op.site ≡ x.op.site → Contains b z
    own_same z held on =
        let counted = known.counted z.op (has_op whole z (past.within z held)) in
        let seq = next_seq (operations a) past.sound.good x.op past.new past.follows in
        let front : z.op.seq ≤ front_of (operations a) x.op.site =
        subst (λ (s : ℕ). z.op.seq ≤ front_of (operations a) s) on
        (up_to_front (operations a) z.op (has_op a z held)) in
        let (o, here, o_on, o_at) = below_is_held (operations b) past'.sound.good x.op past'.new past'.follows
        z.op.seq counted (omega arith) in
        let (w, there, is) = of_op b o here in
        let site : w.op.site ≡ z.op.site = ap (λ (op : Operation). op.site) is ∙ (o_on ∙ sym on) in
        let same_seq : w.op.seq ≡ z.op.seq = ap (λ (op : Operation). op.seq) is ∙ o_at in
        subst (Contains b)
        (one_of_identity note entries text whole in_turn w z (past'.within w there) (past.within z held) site same_seq)
        there

    same_end : file_len (operations a) x.op.site ≡ file_len (operations b) x.op.site
    same_end =
        next_file (operations a) (operations whole) past.sound.good (ops_within a whole past.within) known x.op
        past.new past.follows
        ∙ sym (next_file (operations b) (operations whole) past'.sound.good (ops_within b whole past'.within) known
        x.op past'.new past'.follows)

    pub fits_same : FitsFile (operations a) x.op → FitsFile (operations b) x.op
    fits_same fits = record {
      begins = subst (Begins x.op.kind) same_end fits.begins;
      own = λ name m on. subst (λ (s : ℕ). name.off < file_len (operations b) s) (sym on)
          (subst (λ (n : ℕ). name.off < n) same_end
          (subst (λ (s : ℕ). name.off < file_len (operations a) s) on (fits.own name m on)));
    }

    -- what lies beyond after one lies beyond after the other
    pub beyond_same : (name : CharName) → ((z : Saying) → Contains b z → z.op.site ≡ x.op.site → Contains a z)
        → MentionsBeyond note a x name → MentionsBeyond note b x name
    beyond_same name back is = record {
      mentioned = is.mentioned;
      foreign = is.foreign;
      not_of_base = is.not_of_base;
      beyond = λ q seen held on. is.beyond q seen (back q held on) on;
    }

  pub well_made_same : (a b : List Saying) (x : Saying) → IsPast whole a x.op → IsPast whole b x.op
      → IsWellMade note a x → IsWellMade note b x
  well_made_same a b x past past' made = record {
    above = λ q held is. made.above q (own_same b a x past' past q held is.0) is;
    fits = fits_same a b x past past' made.fits;
    says = (
      λ some. let (name, is) = made.says.0 some in
          (name, beyond_same a b x past past' name (own_same b a x past' past) is),
      λ found. made.says.1
          (found.0, beyond_same b a x past' past found.0 (own_same a b x past past') found.1),
    );
  }
