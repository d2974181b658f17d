-- A replica keeps up with what is admitted.
use Rattle.std.proofs.Common.{◌≡◌, ℕ, ◌+◌, ◌<◌, ◌≤◌, List, [], ◌++◌, ◌∷◌, length, take, slice_get, Some, inl, inr, refl, sym, ap, subst, ◌∙◌, arith}
use Rattle.std.proofs.lemmas.Bool.{cases_lt}
use Rattle.std.proofs.lemmas.List.{append-nil, length-append, take-append-le, take_all}
use Rattle.std.proofs.lemmas.Option.{slice_get_cases}
use Rattle.operations.specs.Operation.{Operation}
use Rattle.texts.specs.TextState.{TextState}
use Rattle.note_laws.specs.Note.{Saying}
use Rattle.note_hashes.specs.Hashes.{digest_of}
use Rattle.note_admission.specs.Growing.{AdmissionGrows, AreAdmitted, FollowsEntries, LogGoesOn, StaysAdmitted, TextSeen}
use Rattle.note_admission.specs.Standing.{AreChainsOf, ChainsSeen}
use Rattle.note_replicas.specs.Following.{Advances, HasTakenBeginning, HasTakenJust, IsOfPlace}
use Rattle.note_replicas.proofs.Counting.{one_more}
use Rattle.note_replicas.proofs.Ready.{on_itself, on_then}
use Rattle.note.specs.Texts.{HasAdmittedMore, IsFollowing, IsSameText, KeepsNoting, NoteText}

-- the first of a list are no more than it has
first_part : (ops taken : List Operation) → taken ≡ take (length taken) ops → length taken ≤ length ops
first_part ops taken is = elim (cases_lt (length ops) (length taken)) [
  | inl lt ↦
      let all : taken ≡ ops = is ∙ take_all (length taken) ops (omega arith) in
      let same : length taken ≡ length ops = ap length all in
      omega arith
  | inr le ↦ le
]

longer : (ops more : List Operation) → length ops ≤ length (ops ++ more)
longer ops more = let sum = length-append ops more in omega arith

some_at_place : (ops : List Operation) (n : ℕ) → n < length ops → (op : Operation) × (slice_get ops n ≡ Some op)
some_at_place ops n lt = elim (slice_get_cases ops n).1 [
  | inl found ↦ let (op, within, at, is) = found in (op, at)
  | inr past ↦ absurd (let le = past.0 in omega arith)
]

-- a replica follows a log that goes on
pub still_following : (t : NoteText) (new : TextSeen) → IsFollowing t → LogGoesOn t.admission new
    → new.text ≡ t.admission.text → IsFollowing (record t { admission = new })
still_following t new is (more, goes) text = record {
  of_text = is.of_text ∙ sym text;
  none_waits = is.none_waits;
  taken = is.taken;
  admitted =
      let longer : length t.admission.ops ≤ length new.ops =
      subst (λ (ops : List Operation). length t.admission.ops ≤ length ops) (sym goes) (longer t.admission.ops more) in
      let within = is.admitted in
      omega arith;
  same = is.same ∙ sym (ap (take t.alike) goes ∙ take-append-le t.alike t.admission.ops more is.admitted);
}

-- a text follows what is admitted of it
pub followed : (t : NoteText) (replica : TextState) (new : TextSeen) (site : ℕ) (MayLose : Saying → Type 0)
    → replica.text ≡ t.replica.text → replica.site ≡ t.replica.site → FollowsEntries t.admission new site MayLose
    → new.text ≡ t.admission.text
    → FollowsEntries t.admission new site MayLose × ((new.text ≡ t.admission.text) × IsOfPlace t.replica replica)
followed t replica new site MayLose text at follows of = (follows, (of, record { text = text; site = at }))

pub place_then : (t u v : TextState) → IsOfPlace t u → IsOfPlace u v → IsOfPlace t v
place_then t u v first next = record { text = next.text ∙ first.text; site = next.site ∙ first.site }

pub same_place : (t u : TextState) → u ≡ t → IsOfPlace t u
same_place t u same = record { text = ap (λ (x : TextState). x.text) same; site = ap (λ (x : TextState). x.site) same }

-- where more was admitted, and it is the same site's copy
pub grown : (key : List ℕ) (chains : ChainsSeen) (t new : NoteText) (mid : TextSeen)
    → AdmissionGrows (digest_of key) (λ note entries. AreChainsOf chains note entries) t.admission mid
    → mid.text ≡ t.admission.text → new.admission ≡ mid → IsOfPlace t.replica new.replica → KeepsNoting t new
    → HasAdmittedMore key chains t new
grown key chains t new mid grows text same place noting = (
  subst (λ (a : TextSeen). AdmissionGrows (digest_of key) (λ note entries. AreChainsOf chains note entries) t.admission a)
      (sym same) grows,
  (ap (λ (a : TextSeen). a.text) same ∙ text, place),
  noting,
)

-- noting goes on where the replica does, unless it was begun anew
pub noting_on : (t new : NoteText) → new.anew ≡ t.anew → Advances t.replica new.replica → KeepsNoting t new
noting_on t new same on kept = (sym same ∙ kept, on)

pub noting_then : (t u v : NoteText) → KeepsNoting t u → KeepsNoting u v → KeepsNoting t v
noting_then t u v first next kept =
    let (mid, on) = next kept in
    let (begun, before) = first mid in
    (begun, on_then t.replica u.replica v.replica before on)

-- what is the same stays so
pub stays_itself : (t : NoteText) → StaysAdmitted t.admission t.admission × IsSameText t t
stays_itself t = (λ note entries admitted is. is, (refl, record { text = refl; site = refl }))

-- a text has grown out of itself
pub grown_itself : (key : List ℕ) (chains : ChainsSeen) (t : NoteText) → HasAdmittedMore key chains t t
grown_itself key chains t = (
  λ note entries admitted given is. ([], subst (AreAdmitted note entries t.admission) (sym (append-nil admitted)) is),
  (refl, record { text = refl; site = refl }),
  λ kept. (kept, on_itself t.replica t.replica refl),
)

-- what is all alike begins the log
pub begun : (t : NoteText) → IsFollowing t → t.alike ≡ length t.replica.operations
    → HasTakenBeginning t.replica t.admission.ops
begun t is all = record {
  taken =
      let ops = t.replica.operations in
      sym (take_all (length ops) ops (omega arith))
      ∙ subst (λ (n : ℕ). take n ops ≡ take n t.admission.ops) all is.same;
  none_waits = is.none_waits;
}

-- and what begins the log is all alike
pub all_alike : (t : NoteText) → t.replica.text ≡ t.admission.text → HasTakenBeginning t.replica t.admission.ops
    → t.alike ≡ length t.replica.operations → IsFollowing t
all_alike t text has all = record {
  of_text = text;
  none_waits = has.none_waits;
  taken = omega arith;
  admitted = let within = first_part t.admission.ops t.replica.operations has.taken in omega arith;
  same =
      let ops = t.replica.operations in
      subst (λ (n : ℕ). take n ops ≡ take n t.admission.ops) (sym all)
      (take_all (length ops) ops (omega arith) ∙ has.taken);
}

pub begun_if_just : (t : TextState) (ops : List Operation) → HasTakenJust t ops → HasTakenBeginning t ops
begun_if_just t ops just =
    let many : length t.operations ≡ length ops = ap length just.taken in
    record {
      taken = just.taken ∙ sym (take_all (length t.operations) ops (omega arith));
      none_waits = just.none_waits;
    }

-- one more that is the same
pub one_alike : (t : NoteText) → IsFollowing t → t.alike < length t.replica.operations → t.alike < length t.admission.ops
    → slice_get t.replica.operations t.alike ≡ slice_get t.admission.ops t.alike
    → IsFollowing (record t { alike = t.alike + 1 })
one_alike t is taken admitted same =
    let (op, at) = some_at_place t.replica.operations t.alike taken in
    record {
      of_text = is.of_text;
      none_waits = is.none_waits;
      taken = omega arith;
      admitted = omega arith;
      same =
          one_more t.replica.operations t.alike op at
          ∙ (ap (λ (ops : List Operation). ops ++ op ∷ []) is.same
          ∙ sym (one_more t.admission.ops t.alike op (sym same ∙ at)));
    }
