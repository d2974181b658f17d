-- What the calls of a reading come to.
use Rattle.std.proofs.Common.{◌≡◌, ◌≢◌, ◌⊎◌, inl, inr, ℕ, zero, suc, ◌+◌, ◌<◌, ◌≤◌, List, [], ◌∷◌, ◌++◌, length, take, drop, refl, sym, ◌∙◌, ap, subst, arith}
use Rattle.std.proofs.lemmas.List.{length-take, take_all}
use Rattle.std.specs.Prelude.{Option, Some, None}
use Rattle.std.specs.Option.{option_map}
use Rattle.std.specs.IoError.{error_kind}
use Rattle.std.specs.declared.io.Error.{Error}
use Rattle.std.specs.declared.io.ErrorKind.TheVariants.{InvalidInput, OutOfMemory}
use Rattle.looks.specs.declared.refusal.Refusal.{Refusal}
use Rattle.looks.specs.declared.refusal.Refusal.TheVariants.{OutOfMemory as Refused, ReadFault}
use Rattle.folder_shelf.specs.Calls.{AnswersLength, CallFailed, Fails, GivesPiece, NoFault, Perhaps, Same, Well}
use Rattle.folder_shelf.specs.Moments.{Content, File, Goes, History, Moment, Names, Plain, Since, Special, seen}
use Rattle.folder_shelf.specs.Whole.{HasNoPlain, IsFileTooLong, IsRead, Opened, ReadAll, RefusesCall}
use Rattle.folder_shelf.specs.declared.folder.TheConstants.{MAX_PIECE}
use Rattle.folder_shelf.specs.declared.whole_files.TheConstants.{MAX_FILE_LEN}
use Rattle.folder_shelf.proofs.Leading.{since_call, since_since, since_start, since_weaker}

abbrev bytes_in : Option Content → List ℕ
bytes_in None = []
bytes_in (Some Special) = []
bytes_in (Some (Plain bytes)) = bytes

one_plain : (a b : List ℕ) → Some (Plain a) ≡ Some (Plain b) → a ≡ b
one_plain a b e = ap bytes_in e

abbrev or_special : Option Content → Content
or_special None = Special
or_special (Some content) = content

pub same_here : (m : Moment) → Same m m
same_here m = record { names = refl; kept = refl; files = refl }

pub same_same : (a m n : Moment) → Same a m → Same m n → Same a n
same_same a m n x y = record { names = y.names ∙ x.names; kept = y.kept ∙ x.kept; files = y.files ∙ x.files }

either_same : (m n : Moment) → Same m n ⊎ Same m n → Same m n
either_same m n (inl same) = same
either_same m n (inr same) = same

pub fails_after : (error : Error) (old mid now : Moment) → NoFault old mid → Fails error mid now → Fails error old now
fails_after error old mid now none (inl memory) = inl (memory.0, memory.1 ∙ none)
fails_after error old mid now none (inr fault) = inr (fault.0, subst (λ (n : ℕ). n < now.faults) none fault.1)

fails_refuses : (error : Error) (reason : Type 0) (m n : Moment) → Fails error m n → RefusesCall error reason m n
fails_refuses error reason m n (inl memory) = inl memory
fails_refuses error reason m n (inr fault) = inr (fault.0, inl fault.1)

-- the kind of the refusals of what is no plain file
no_memory : (error : Error) → error_kind error ≡ InvalidInput → error_kind error ≢ OutOfMemory
no_memory error is memory = cc

-- the first call failed
pub call_refuses : (error : Error) (reason : Moment → Type 0) (h0 h1 : Option History) → Goes (Perhaps error Same) h0 h1
    → Since Same (λ a n. RefusesCall error (reason a) a n) h0 h1
call_refuses error reason = since_call (Perhaps error Same) Same (λ a n. RefusesCall error (reason a) a n)
    (λ m n s. either_same m n s.0) (λ m n s. fails_refuses error (reason m) m n s.1)

-- so did a call after others that only read
pub then_refuses : (Last : Moment → Moment → Type 0) → ((a m : Moment) → Last a m → Same a m × NoFault a m)
    → (error : Error) (reason : Moment → Type 0) (h0 h1 h2 : Option History) → Since Same Last h0 h1 → Goes (Perhaps error Same) h1 h2
    → Since Same (λ a n. RefusesCall error (reason a) a n) h0 h2
then_refuses Last reads error reason h0 h1 h2 a b =
    since_since Same Last Same (Perhaps error Same) Same (λ a n. RefusesCall error (reason a) a n)
    (λ m n p. p)
    (λ l m n x y. same_same l m n (reads l m x).0 y)
    (λ l m n x y. fails_refuses error (reason l) l n (fails_after error l m n (reads l m x).1 y.1))
    h0 h1 h2 a (since_call (Perhaps error Same) Same (Perhaps error Same) (λ m n s. either_same m n s.0) (λ m n s. s) h1 h2 b)

-- what a look answered
pub record Looked (name : List ℕ) (len : Option ℕ) (old now : Moment) : Type 0 where
  pub same : Same old now
  pub no_fault : NoFault old now
  pub shows : AnswersLength name len old

pub looked : (name : List ℕ) (len : Option ℕ) (h0 h1 : Option History) → Goes (λ old new. Well Same old new × AnswersLength name len old) h0 h1
    → Since Same (Looked name len) h0 h1
looked name len = since_call (λ old new. Well Same old new × AnswersLength name len old) Same (Looked name len)
    (λ m n s. s.0.0) (λ m n s. record { same = s.0.0; no_fault = s.0.1; shows = s.1 })

pub shows_none : (error : Error) (name : List ℕ) (len : Option ℕ) (h0 h1 : Option History) → error_kind error ≡ InvalidInput → len ≡ None
    → Goes (λ old new. Well Same old new × AnswersLength name len old) h0 h1 → Since Same (λ a n. RefusesCall error (HasNoPlain a name) a n) h0 h1
shows_none error name len h0 h1 kind is goes =
    since_weaker Same (Looked name len) Same (λ a n. RefusesCall error (HasNoPlain a name) a n) (λ m n p. p)
    (λ m n l. inr (no_memory error kind, inr (λ bytes at. absurd (subst (λ (o : Option ℕ). AnswersLength name o m) is l.shows bytes at))))
    h0 h1 (looked name len h0 h1 goes)

too_long : (name : List ℕ) (len : ℕ) (m : Moment) → MAX_FILE_LEN < len → AnswersLength name (Some len) m → HasNoPlain m name
too_long name len m over shows bytes at =
    subst (λ (n : ℕ). MAX_FILE_LEN < n) (sym shows.2 ∙ ap length (one_plain shows.0 bytes (sym shows.1 ∙ at))) over

pub shows_long : (error : Error) (name : List ℕ) (len : Option ℕ) (n : ℕ) (h0 h1 : Option History) → error_kind error ≡ InvalidInput → len ≡ Some n
    → MAX_FILE_LEN < n → Goes (λ old new. Well Same old new × AnswersLength name len old) h0 h1 → Since Same (λ a m. RefusesCall error (HasNoPlain a name) a m) h0 h1
shows_long error name len n h0 h1 kind is over goes =
    since_weaker Same (Looked name len) Same (λ a m. RefusesCall error (HasNoPlain a name) a m) (λ m n p. p)
    (λ m now l. inr (no_memory error kind, inr (too_long name n m over (subst (λ (o : Option ℕ). AnswersLength name o m) is l.shows))))
    h0 h1 (looked name len h0 h1 goes)

pub open_refuses : (error : Error) (name : List ℕ) (len : Option ℕ) (h0 h1 h2 : Option History)
    → Goes (λ old new. Well Same old new × AnswersLength name len old) h0 h1 → Goes (Perhaps error Same) h1 h2
    → Since Same (λ a n. RefusesCall error (HasNoPlain a name) a n) h0 h2
open_refuses error name len h0 h1 h2 a b =
    then_refuses (Looked name len) (λ a m l. (l.same, l.no_fault)) error (λ a. HasNoPlain a name) h0 h1 h2 (looked name len h0 h1 a) b

-- a name's file is the one that shows its content
shown_content : (name bytes : List ℕ) (file : ℕ) (m : Moment) → m.names name ≡ Some file → seen m name ≡ Some (Plain bytes)
    → (m.files file).content ≡ Plain bytes
shown_content name bytes file m at shows =
    ap or_special (sym (ap (λ (left : Option ℕ). option_map (λ k. (m.files k).content) left) at) ∙ shows)

pub opened : (name : List ℕ) (file place : ℕ) (len : Option ℕ) (n : ℕ) (h0 h1 h2 : Option History) → len ≡ Some n
    → Goes (λ old new. Well Same old new × AnswersLength name len old) h0 h1
    → Goes (λ old new. Well Same old new × (old.names name ≡ Some file) × (place ≡ 0)) h1 h2
    → Since Same (Opened name file place) h0 h2
opened name file place len n h0 h1 h2 is a b =
    since_since Same (Looked name len) Same (λ old new. Well Same old new × (old.names name ≡ Some file) × (place ≡ 0)) Same (Opened name file place)
    (λ m n p. p)
    (λ l m n x y. same_same l m n x.same y)
    (λ l m now x y.
    let shows = subst (λ (o : Option ℕ). AnswersLength name o l) is x.shows in
    record {
      same = same_same l m now x.same y.0.0;
      no_fault = y.0.1 ∙ x.no_fault;
      start = y.2;
      bytes = shows.0;
      seen_bytes = shows.1;
      content = shown_content name shows.0 file l (sym (ap (λ (names : Names). names name) x.same.names) ∙ y.1) shows.1;
    })
    h0 h1 h2 (looked name len h0 h1 a)
    (since_call (λ old new. Well Same old new × (old.names name ≡ Some file) × (place ≡ 0)) Same
    (λ old new. Well Same old new × (old.names name ≡ Some file) × (place ≡ 0)) (λ m n s. s.0.0) (λ m n s. s) h1 h2 b)

take_nil : (n : ℕ) → take {A = ℕ} n [] ≡ []
take_nil zero = refl
take_nil (suc n) = refl

take_take : (m n k : ℕ) (xs : List ℕ) → k ≡ m + n → take m xs ++ take n (drop m xs) ≡ take k xs
take_take zero n k xs e = let same : n ≡ k = omega arith in ap (λ (j : ℕ). take j xs) same
take_take (suc m) n zero xs e = absurd (omega arith)
take_take (suc m) n (suc k) [] e = take_nil n
take_take (suc m) n (suc k) (x ∷ xs) e = ap (λ (l : List ℕ). x ∷ l) (take_take m n k xs (omega arith))

-- What has been read of a file from its start on.
pub record ReadSoFar (file start place : ℕ) (bytes : List ℕ) (old now : Moment) : Type 0 where
  pub same : Same old now
  pub no_fault : NoFault old now
  pub read : start ≡ 0 → (all : List ℕ) → (old.files file).content ≡ Plain all → (bytes ≡ take place all) × (place ≤ length all)

pub read_start : (file place : ℕ) (h : Option History) → Since Same (ReadSoFar file place place []) h h
read_start file place = since_start Same (ReadSoFar file place place []) (λ m. record {
  same = same_here m;
  no_fault = refl;
  read = λ none all is. (sym (ap (λ (p : ℕ). take p all) none), omega (arith, none));
})

-- one piece more
module _ (file start place end count : ℕ) (before after : List ℕ) where
  abbrev Piece : Moment → Moment → Type 0
  Piece old new = Well Same old new × GivesPiece file place count end before after old

  content_then : (a m : Moment) (all : List ℕ) → Same a m → (a.files file).content ≡ Plain all → (m.files file).content ≡ Plain all
  content_then a m all same is = ap (λ (files : ℕ → File). (files file).content) same.files ∙ is

  so_far : (a m n : Moment) → ReadSoFar file start place before a m → Piece m n → ReadSoFar file start end after a n
  so_far a m n x y = record {
    same = same_same a m n x.same y.0.0;
    no_fault = y.0.1 ∙ x.no_fault;
    read = λ none all is.
        let at = content_then a m all x.same is in
        (y.1.bytes all at ∙ (ap (λ (l : List ℕ). l ++ take count (drop place all)) (x.read none all is).0 ∙ take_take place count end all y.1.place), y.1.within all at);
  }

  pub read_piece : (k : ℕ) → k ≡ file → (h0 h1 h2 : Option History) → Since Same (ReadSoFar file start place before) h0 h1
      → Goes (λ old new. Well Same old new × GivesPiece k place count end before after old) h1 h2
      → Since Same (λ a n. ReadSoFar file start end after a n × (count < MAX_PIECE → ReadAll file start after a n)) h0 h2
  read_piece k is h0 h1 h2 a b =
      let step : Goes Piece h1 h2 = subst (λ (j : ℕ). Goes (λ old new. Well Same old new × GivesPiece j place count end before after old) h1 h2) is b in
      since_since Same (ReadSoFar file start place before) Same Piece Same (λ a n. ReadSoFar file start end after a n × (count < MAX_PIECE → ReadAll file start after a n))
      (λ m n p. p)
      (λ l m n x y. same_same l m n x.same y)
      (λ l m n x y.
      let more = so_far l m n x y in (
        more,
        λ short. record {
          same = more.same;
          no_fault = more.no_fault;
          read = λ none all is.
              let ends = y.1.last all (content_then l m all x.same is) short in
              (more.read none all is).0 ∙ (ap (λ (p : ℕ). take p all) ends ∙ take_all (length all) all (omega arith));
        },
      ))
      h0 h1 h2 a (since_call Piece Same Piece (λ m n s. s.0.0) (λ m n s. s) h1 h2 step)

-- the file goes on past the limit
pub read_past : (error : Error) (file start place : ℕ) (bytes : List ℕ) (h0 h1 : Option History) → error_kind error ≡ InvalidInput → MAX_FILE_LEN < length bytes
    → Since Same (ReadSoFar file start place bytes) h0 h1 → Since Same (λ a n. RefusesCall error (IsFileTooLong file start a) a n) h0 h1
read_past error file start place bytes h0 h1 kind over since =
    since_weaker Same (ReadSoFar file start place bytes) Same (λ a n. RefusesCall error (IsFileTooLong file start a) a n) (λ m n p. p)
    (λ m n s. inr (
      no_memory error kind,
      inr (λ none all is.
          let front = (s.read none all is).0 in
          omega (arith, over, ap length front, length-take place all)),
    ))
    h0 h1 since

pub read_refuses : (error : Error) (file start place : ℕ) (bytes : List ℕ) (h0 h1 h2 : Option History)
    → Since Same (ReadSoFar file start place bytes) h0 h1 → Goes (Perhaps error Same) h1 h2 → Since Same (λ a n. RefusesCall error (IsFileTooLong file start a) a n) h0 h2
read_refuses error file start place bytes =
    then_refuses (ReadSoFar file start place bytes) (λ a m s. (s.same, s.no_fault)) error (λ a. IsFileTooLong file start a)

-- of what a piece more comes to: it is read so far
pub piece_so_far : (file start end count : ℕ) (bytes : List ℕ) (h0 h1 : Option History)
    → Since Same (λ a n. ReadSoFar file start end bytes a n × (count < MAX_PIECE → ReadAll file start bytes a n)) h0 h1 → Since Same (ReadSoFar file start end bytes) h0 h1
piece_so_far file start end count bytes =
    since_weaker Same (λ a n. ReadSoFar file start end bytes a n × (count < MAX_PIECE → ReadAll file start bytes a n)) Same (ReadSoFar file start end bytes)
    (λ m n p. p) (λ m n s. s.0)

-- or it is all
pub piece_last : (file start end count : ℕ) (bytes : List ℕ) (h0 h1 : Option History) → count < MAX_PIECE
    → Since Same (λ a n. ReadSoFar file start end bytes a n × (count < MAX_PIECE → ReadAll file start bytes a n)) h0 h1 → Since Same (ReadAll file start bytes) h0 h1
piece_last file start end count bytes h0 h1 short =
    since_weaker Same (λ a n. ReadSoFar file start end bytes a n × (count < MAX_PIECE → ReadAll file start bytes a n)) Same (ReadAll file start bytes)
    (λ m n p. p) (λ m n s. s.1 short) h0 h1

-- an opened file that was read
pub plain_read : (name : List ℕ) (file place : ℕ) (bytes : List ℕ) (h0 h1 h2 : Option History) → Since Same (Opened name file place) h0 h1
    → Since Same (ReadAll file place bytes) h1 h2 → Since Same (IsRead name bytes) h0 h2
plain_read name file place bytes =
    since_since Same (Opened name file place) Same (ReadAll file place bytes) Same (IsRead name bytes)
    (λ m n p. p)
    (λ l m n x y. same_same l m n x.same y)
    (λ l m n x y. record {
      content = x.seen_bytes ∙ ap (λ (b : List ℕ). Some (Plain b))
          (sym (y.read x.start x.bytes (ap (λ (files : ℕ → File). (files file).content) x.same.files ∙ x.content)));
      no_fault = y.no_fault ∙ x.no_fault;
    })

refuses_after : (error : Error) (reason here : Type 0) (a m n : Moment) → NoFault a m → (reason → here) → RefusesCall error reason m n → RefusesCall error here a n
refuses_after error reason here a m n none gives (inl memory) = inl (memory.0, memory.1 ∙ none)
refuses_after error reason here a m n none gives (inr (is, inl fault)) = inr (is, inl (subst (λ (k : ℕ). k < n.faults) none fault))
refuses_after error reason here a m n none gives (inr (is, inr why)) = inr (is, inr (gives why))

pub plain_refuses : (error : Error) (name : List ℕ) (file place : ℕ) (h0 h1 h2 : Option History) → Since Same (Opened name file place) h0 h1
    → Since Same (λ a n. RefusesCall error (IsFileTooLong file place a) a n) h1 h2 → Since Same (λ a n. RefusesCall error (HasNoPlain a name) a n) h0 h2
plain_refuses error name file place =
    since_since Same (Opened name file place) Same (λ a n. RefusesCall error (IsFileTooLong file place a) a n) Same (λ a n. RefusesCall error (HasNoPlain a name) a n)
    (λ m n p. p)
    (λ l m n x y. same_same l m n x.same y)
    (λ l m n x y. refuses_after error (IsFileTooLong file place m) (HasNoPlain l name) l m n x.no_fault
    (λ long bytes at. long x.start bytes
    (ap (λ (files : ℕ → File). (files file).content) x.same.files ∙ (x.content ∙ ap (λ (b : List ℕ). Plain b) (one_plain x.bytes bytes (sym x.seen_bytes ∙ at)))))
    y)

no_fault_told : (refusal : Refusal) → refusal ≡ Refused → refusal ≢ ReadFault
no_fault_told refusal memory fault = cc

-- what a caller is told of a failed reading
pub told_fault : (refusal : Refusal) (error : Error) (reason : Moment → Type 0) (h0 h1 : Option History) → (error_kind error ≡ OutOfMemory → refusal ≡ Refused)
    → refusal ≡ ReadFault → Since Same (λ a n. RefusesCall error (reason a) a n) h0 h1 → Since Same (λ a n. CallFailed a n ⊎ reason a) h0 h1
told_fault refusal error reason h0 h1 memory is =
    since_weaker Same (λ a n. RefusesCall error (reason a) a n) Same (λ a n. CallFailed a n ⊎ reason a) (λ m n p. p)
    (λ m n why. elim why [ inl w ↦ absurd (no_fault_told refusal (memory w.0) is) | inr w ↦ w.1 ]) h0 h1

pub told_memory : (refusal : Refusal) (error : Error) (reason : Moment → Type 0) (h0 h1 : Option History) → (error_kind error ≢ OutOfMemory → refusal ≡ ReadFault)
    → refusal ≡ Refused → Since Same (λ a n. RefusesCall error (reason a) a n) h0 h1 → Since Same NoFault h0 h1
told_memory refusal error reason h0 h1 other is =
    since_weaker Same (λ a n. RefusesCall error (reason a) a n) Same NoFault (λ m n p. p)
    (λ m n why. elim why [ inl w ↦ w.1 | inr w ↦ absurd (no_fault_told refusal is (other w.0)) ]) h0 h1
