-- What may be found at the moments of a replacing.
use Rattle.std.proofs.Common.{◌≡◌, ◌≢◌, ◌⊎◌, inl, inr, ℕ, true, List, [], ◌∷◌, refl, sym, ◌∙◌, ap, subst}
use Rattle.std.specs.Prelude.{Option, Some, None}
use Rattle.std.specs.Option.{option_map}
use Rattle.std.specs.declared.io.Error.{Error}
use Rattle.folder_shelf.specs.Calls.{AppendsToFile, Fails, MakesFile, Moves, NoFault, Perhaps, Removes, Same, Syncs, SyncsFolder, TakesMode, Touches, TouchesContent, TouchesMode, Well}
use Rattle.folder_shelf.specs.Moments.{Among, Content, CrashLeaves, File, Goes, History, Moment, Names, Plain, Since, Special, Survives, lasting, mode_of, seen}
use Rattle.folder_shelf.specs.Whole.{BeforeOrAfter, IsBeside, IsPlacedWhole, IsWhole, MakesBeside, MakesFor, Placing}
use Rattle.folder_shelf.specs.declared.folder.TheConstants.{PRIVATE}
use Rattle.folder_shelf.proofs.Leading.{since_call, since_since}
use Rattle.folder_shelf.proofs.Reading.{fails_after}

-- the content of a name's file
content_at : (ℕ → File) → Option ℕ → Option Content
content_at files file = option_map (λ k. (files k).content) file

pub seen_same : (old now : Moment) (n : List ℕ) → Same old now → seen now n ≡ seen old n
seen_same old now n same =
    ap (λ (names : Names). option_map (λ k. (now.files k).content) (names n)) same.names
    ∙ ap (λ (files : ℕ → File). option_map (λ k. (files k).content) (old.names n)) same.files

pub mode_same : (old now : Moment) (n : List ℕ) → Same old now → mode_of now n ≡ mode_of old n
mode_same old now n same =
    ap (λ (names : Names). option_map (λ k. (now.files k).mode) (names n)) same.names
    ∙ ap (λ (files : ℕ → File). option_map (λ k. (files k).mode) (old.names n)) same.files

pub lasting_same : (old now : Moment) → now.names ≡ old.names → now.kept ≡ old.kept → (n : List ℕ) (left : Option ℕ)
    → Among (lasting now) n left → Among (lasting old) n left
lasting_same old now names kept n left among =
    subst (λ (l : List Names). Among (old.names ∷ l) n left) kept (subst (λ (m : Names). Among (m ∷ now.kept) n left) names among)

leaves_same : (old now : Moment) → Same old now → (n : List ℕ) (found : Option Content) → CrashLeaves now n found → CrashLeaves old n found
leaves_same old now same n found left = (
  left.0,
  lasting_same old now same.names same.kept n left.0 left.1,
  subst (λ (files : ℕ → File). Survives files left.0 found) same.files left.2,
)

-- where one file alone may differ, another is as it was
pub survives_other : (old now : ℕ → File) (left : Option ℕ) (found : Option Content)
    → ((k : ℕ) → left ≡ Some k → now k ≡ old k) → Survives now left found → Survives old left found
survives_other old now None found same s = s
survives_other old now (Some k) found same s =
    (s.0, s.1, λ synced. subst (λ (f : File). f.synced ≡ true → s.0 ≡ f.content) (same k refl) s.2 synced)

pub content_other : (old now : ℕ → File) (left : Option ℕ)
    → ((k : ℕ) → left ≡ Some k → now k ≡ old k) → option_map (λ k. (now k).content) left ≡ option_map (λ k. (old k).content) left
content_other old now None same = refl
content_other old now (Some k) same = ap (λ (f : File). Some f.content) (same k refl)

mode_other : (old now : ℕ → File) (left : Option ℕ)
    → ((k : ℕ) → left ≡ Some k → now k ≡ old k) → option_map (λ k. (now k).mode) left ≡ option_map (λ k. (old k).mode) left
mode_other old now None same = refl
mode_other old now (Some k) same = ap (λ (f : File). Some f.mode) (same k refl)

-- a name has one mode, or none
one_mode : (found : Option ℕ) (a b : ℕ) → found ≡ Some a → found ≡ Some b → a ≡ b
one_mode found a b is also = cc

no_mode : (found : Option ℕ) (a : ℕ) → found ≡ None → found ≡ Some a → ⊥
no_mode found a none is = cc

lacks_mode : (m : Moment) (n : List ℕ) (a : ℕ) → m.names n ≡ None → mode_of m n ≡ Some a → ⊥
lacks_mode m n a none is = no_mode (mode_of m n) a (ap (λ (left : Option ℕ). option_map (λ k. (m.files k).mode) left) none) is

-- the making of a file leaves the files of other names
module _ (beside : List ℕ) (file : ℕ) (old mid : Moment) (makes : MakesFile beside file old mid) (n : List ℕ) (differs : n ≡ beside → ⊥) where
  made_files : (k : ℕ) → old.names n ≡ Some k → mid.files k ≡ old.files k
  made_files k is = makes.files k (λ e. makes.fresh n (inl (sym (is ∙ ap (λ (j : ℕ). Some j) e))))

  made_names : mid.names n ≡ old.names n
  made_names = elim (makes.others n) [
    | inl e ↦ absurd (differs e)
    | inr same ↦ same
  ]

  pub made_mode : mode_of mid n ≡ mode_of old n
  made_mode =
      ap (λ (left : Option ℕ). option_map (λ k. (mid.files k).mode) left) made_names
      ∙ mode_other old.files mid.files (old.names n) made_files

  pub made_seen : seen mid n ≡ seen old n
  made_seen =
      ap (λ (left : Option ℕ). option_map (λ k. (mid.files k).content) left) made_names
      ∙ content_other old.files mid.files (old.names n) made_files

-- a file has the mode of a name's file, which is plain, if there is one
pub record Takes (file : ℕ) (name : List ℕ) (old now : Moment) : Type 0 where
  pub mode : (before : ℕ) → mode_of old name ≡ Some before → (now.files file).mode ≡ before
  pub plain : seen old name ≢ Some Special

-- Between the making of a file and the end, beside the moment before.
pub record Under (beside : List ℕ) (file : ℕ) (name bytes : List ℕ) (old now : Moment) : Type 0 where
  pub names : (n : List ℕ) → (now.names n ≡ old.names n) ⊎ (n ≡ beside)
      ⊎ ((n ≡ name) × (now.names n ≡ Some file) × ((now.files file).content ≡ Plain bytes) × Takes file name old now)
  pub kept : (n : List ℕ) (left : Option ℕ) → Among (lasting now) n left → Among (lasting old) n left ⊎ (n ≡ beside)
      ⊎ ((n ≡ name) × (left ≡ Some file) × ((now.files file).content ≡ Plain bytes) × ((now.files file).synced ≡ true))
  pub files : (k : ℕ) → k ≢ file → now.files k ≡ old.files k
  pub absent : old.names beside ≡ None
  pub fresh : (n : List ℕ) → ¬ Among (lasting old) n (Some file)
  pub here : (now.names beside ≡ Some file) ⊎ (now.names beside ≡ None)
  pub mode : (before : ℕ) → mode_of old name ≡ Some before → ((now.files file).mode ≡ PRIVATE) ⊎ ((now.files file).mode ≡ before)

module _ (beside : List ℕ) (file : ℕ) (name bytes : List ℕ) (old now : Moment) (under : Under beside file name bytes old now) where
  -- the files that a name may have had before are as they were
  same_at : (n : List ℕ) (left : Option ℕ) → Among (lasting old) n left → (k : ℕ) → left ≡ Some k → now.files k ≡ old.files k
  same_at n left among k is =
      under.files k (λ e. under.fresh n (subst (λ (l : Option ℕ). Among (lasting old) n l) (is ∙ ap (λ (j : ℕ). Some j) e) among))

  -- what a name with its old file shows
  shows_old : (n : List ℕ) → now.names n ≡ old.names n → seen now n ≡ seen old n
  shows_old n e =
      ap (λ (left : Option ℕ). option_map (λ k. (now.files k).content) left) e
      ∙ content_other old.files now.files (old.names n) (same_at n (old.names n) (inl refl))

  mode_old : (n : List ℕ) → now.names n ≡ old.names n → mode_of now n ≡ mode_of old n
  mode_old n e =
      ap (λ (left : Option ℕ). option_map (λ k. (now.files k).mode) left) e
      ∙ mode_other old.files now.files (old.names n) (same_at n (old.names n) (inl refl))

  seen_under : (n : List ℕ) → (seen now n ≡ seen old n) ⊎ (n ≡ beside) ⊎ ((n ≡ name) × (seen now n ≡ Some (Plain bytes)))
  seen_under n = elim (under.names n) [
    | inl e ↦ inl (shows_old n e)
    | inr (inl e) ↦ inr (inl e)
    | inr (inr w) ↦ inr (inr (w.0, ap (λ (left : Option ℕ). option_map (λ k. (now.files k).content) left) w.1 ∙ ap (λ (c : Content). Some c) w.2))
  ]

  left_under : (n : List ℕ) (found : Option Content) → CrashLeaves now n found
      → CrashLeaves old n found ⊎ (n ≡ beside) ⊎ ((n ≡ name) × (found ≡ Some (Plain bytes)))
  left_under n found left = elim (under.kept n left.0 left.1) [
    | inl among ↦ inl (left.0, among, survives_other old.files now.files left.0 found (same_at n left.0 among) left.2)
    | inr (inl e) ↦ inr (inl e)
    | inr (inr w) ↦
        let s = subst (λ (l : Option ℕ). Survives now.files l found) w.1 left.2 in
        inr (inr (w.0, s.1 ∙ ap (λ (c : Content). Some c) (s.2 w.3 ∙ w.2)))
  ]

  module _ (is_beside : IsBeside beside) (not_beside : ¬ IsBeside name) where
    not_named : name ≡ beside → ⊥
    not_named e = not_beside (subst (λ (n : List ℕ). IsBeside n) (sym e) is_beside)

    is_new : (other : List ℕ) → other ≡ beside → IsBeside other × (old.names other ≡ None)
    is_new other e = (subst (λ (n : List ℕ). IsBeside n) (sym e) is_beside, ap old.names e ∙ under.absent)

    has_mode : (before : ℕ) → mode_of old name ≡ Some before → mode_of now name ≡ Some before
    has_mode before is = elim (under.names name) [
      | inl e ↦ mode_old name e ∙ is
      | inr (inl e) ↦ absurd (not_named e)
      | inr (inr w) ↦ ap (λ (left : Option ℕ). option_map (λ k. (now.files k).mode) left) w.1 ∙ ap (λ (x : ℕ). Some x) (w.3.mode before is)
    ]

    stays_special : seen old name ≡ Some Special → seen now name ≡ Some Special
    stays_special is = elim (under.names name) [
      | inl e ↦ shows_old name e ∙ is
      | inr (inl e) ↦ absurd (not_named e)
      | inr (inr w) ↦ absurd (w.3.plain is)
    ]

    mode_beside : (before mode : ℕ) → mode_of old name ≡ Some before → mode_of now beside ≡ Some mode → (mode ≡ PRIVATE) ⊎ (mode ≡ before)
    mode_beside before mode was is = elim under.here [
      | inl e ↦
          let same : (now.files file).mode ≡ mode =
          one_mode (mode_of now beside) (now.files file).mode mode (ap (λ (left : Option ℕ). option_map (λ k. (now.files k).mode) left) e) is in
          elim (under.mode before was) [
            | inl private ↦ inl (sym same ∙ private)
            | inr taken ↦ inr (sym same ∙ taken)
          ]
      | inr e ↦ absurd (lacks_mode now beside mode e is)
    ]

    is_private : (before : ℕ) → mode_of old name ≡ Some before → (other : List ℕ) → IsBeside other → old.names other ≡ None
        → (mode : ℕ) → mode_of now other ≡ Some mode → (mode ≡ PRIVATE) ⊎ (mode ≡ before)
    is_private before was other other_beside absent mode is = elim (under.names other) [
      | inl e ↦ absurd (lacks_mode now other mode (e ∙ absent) is)
      | inr (inl e) ↦ mode_beside before mode was (subst (λ (n : List ℕ). mode_of now n ≡ Some mode) e is)
      | inr (inr w) ↦ absurd (not_beside (subst (λ (n : List ℕ). IsBeside n) w.0 other_beside))
    ]

    pub under_before_or_after : BeforeOrAfter name bytes old now
    under_before_or_after = record {
      shows = elim (seen_under name) [
        | inl before ↦ inl before
        | inr (inl e) ↦ absurd (not_named e)
        | inr (inr w) ↦ inr w.1
      ];
      leaves = λ found left. elim (left_under name found left) [
        | inl before ↦ inl before
        | inr (inl e) ↦ absurd (not_named e)
        | inr (inr w) ↦ inr w.1
      ];
      mode = has_mode;
      special = stays_special;
      private = is_private;
      others_show = λ other differs. elim (seen_under other) [
        | inl before ↦ inl before
        | inr (inl e) ↦ inr (is_new other e)
        | inr (inr w) ↦ absurd (differs w.0)
      ];
      others_leave = λ other differs found left. elim (left_under other found left) [
        | inl before ↦ inl before
        | inr (inl e) ↦ inr (is_new other e)
        | inr (inr w) ↦ absurd (differs w.0)
      ];
    }

-- a file that was made, and the writing to it and the naming since
pub under_made : (beside : List ℕ) (file : ℕ) (name bytes : List ℕ) (old mid now : Moment) → (name ≡ beside → ⊥)
    → MakesFor name beside file old mid → Placing file beside name bytes mid now → Under beside file name bytes old now
under_made beside file name bytes old mid now differs made placing = record {
  names = λ n. elim (placing.names n) [
    | inl e ↦ elim (made.makes.others n) [
      | inl b ↦ inr (inl b)
      | inr same ↦ inl (e ∙ same)
    ]
    | inr (inl b) ↦ inr (inl b)
    | inr (inr w) ↦ inr (inr (w.0, w.1 ∙ made.makes.here, w.2.content made.makes.content, takes w.2))
  ];
  kept = λ n left among. elim (placing.kept n left among) [
    | inl before ↦ made_kept n left before
    | inr (inl b) ↦ inr (inl b)
    | inr (inr w) ↦ inr (inr (w.0, w.1 ∙ made.makes.here, w.2.content made.makes.content, w.2.synced))
  ];
  files = λ k differs. placing.files k differs ∙ made.makes.files k differs;
  absent = made.makes.absent;
  fresh = made.makes.fresh;
  here = elim (placing.here (λ e. differs (sym e))) [
    | inl e ↦ inl (e ∙ made.makes.here)
    | inr e ↦ inr e
  ];
  mode = λ before is. elim (placing.mode before (mode_then ∙ is)) [
    | inl same ↦ inl (same ∙ made.is_for.private (λ none. no_mode (mode_of old name) before none is))
    | inr taken ↦ inr taken
  ];
}
  where
    mode_then : mode_of mid name ≡ mode_of old name
    mode_then = made_mode beside file old mid made.makes name differs

    takes : IsWhole file name bytes mid now → Takes file name old now
    takes whole = record {
      mode = λ before is. whole.mode before (mode_then ∙ is);
      plain = λ is. whole.plain (made_seen beside file old mid made.makes name differs ∙ is);
    }

    made_kept : (n : List ℕ) (left : Option ℕ) → Among (lasting mid) n left → Among (lasting old) n left ⊎ (n ≡ beside)
        ⊎ ((n ≡ name) × (left ≡ Some file) × ((now.files file).content ≡ Plain bytes) × ((now.files file).synced ≡ true))
    made_kept n left (inl is) = elim (made.makes.others n) [
      | inl b ↦ inr (inl b)
      | inr same ↦ inl (inl (is ∙ same))
    ]
    made_kept n left (inr among) = inl (subst (λ (l : List Names). Among l n left) made.makes.kept among)

-- nothing was written or named yet
placing_start : (file : ℕ) (beside name bytes : List ℕ) (m : Moment) → Placing file beside name bytes m m
placing_start file beside name bytes m = record {
  names = λ n. inl refl;
  kept = λ n left among. inl among;
  files = λ k differs. refl;
  here = λ differs. inl refl;
  mode = λ before is. inl refl;
}

pub before_or_after_made : (name bytes : List ℕ) (old now : Moment) → (¬ IsBeside name) → MakesBeside name old now → BeforeOrAfter name bytes old now
before_or_after_made name bytes old now not_beside (inl same) = record {
  shows = inl (seen_same old now name same);
  leaves = λ found left. inl (leaves_same old now same name found left);
  mode = λ before is. mode_same old now name same ∙ is;
  special = λ is. seen_same old now name same ∙ is;
  private = λ before was other other_beside absent mode is. absurd (lacks_mode old other mode absent (sym (mode_same old now other same) ∙ is));
  others_show = λ other differs. inl (seen_same old now other same);
  others_leave = λ other differs found left. inl (leaves_same old now same other found left);
}
before_or_after_made name bytes old now not_beside (inr m) =
    under_before_or_after m.0 m.1 name bytes old now (under_made m.0 m.1 name bytes old now now (λ e. not_beside (subst (λ (n : List ℕ). IsBeside n) (sym e) m.2)) m.3 (placing_start m.1 m.0 name bytes now)) m.2 not_beside

pub before_or_after_placing : (beside : List ℕ) (file : ℕ) (name bytes : List ℕ) (old mid now : Moment) → IsBeside beside → (¬ IsBeside name)
    → MakesFor name beside file old mid → Placing file beside name bytes mid now → BeforeOrAfter name bytes old now
before_or_after_placing beside file name bytes old mid now is_beside not_beside makes placing =
    under_before_or_after beside file name bytes old now
    (under_made beside file name bytes old mid now (λ e. not_beside (subst (λ (n : List ℕ). IsBeside n) (sym e) is_beside)) makes placing)
    is_beside not_beside

-- One call more, while a file is placed.
module _ (file : ℕ) (beside name bytes : List ℕ) (old mid now : Moment) (placing : Placing file beside name bytes old mid) where
  whole_then : now.files ≡ mid.files → IsWhole file name bytes old mid → IsWhole file name bytes old now
  whole_then files w = record {
    content = λ empty. ap (λ (fs : ℕ → File). (fs file).content) files ∙ w.content empty;
    synced = ap (λ (fs : ℕ → File). (fs file).synced) files ∙ w.synced;
    mode = λ before is. ap (λ (fs : ℕ → File). (fs file).mode) files ∙ w.mode before is;
    plain = w.plain;
  }

  -- a name that is as it was in between
  names_then : now.files ≡ mid.files → (n : List ℕ) → now.names n ≡ mid.names n
      → (now.names n ≡ old.names n) ⊎ (n ≡ beside) ⊎ ((n ≡ name) × (now.names n ≡ old.names beside) × IsWhole file name bytes old now)
  names_then files n e = elim (placing.names n) [
    | inl same ↦ inl (e ∙ same)
    | inr (inl b) ↦ inr (inl b)
    | inr (inr w) ↦ inr (inr (w.0, e ∙ w.1, whole_then files w.2))
  ]

  kept_then : now.files ≡ mid.files → (n : List ℕ) (left : Option ℕ) → Among (lasting mid) n left
      → Among (lasting old) n left ⊎ (n ≡ beside) ⊎ ((n ≡ name) × (left ≡ old.names beside) × IsWhole file name bytes old now)
  kept_then files n left among = elim (placing.kept n left among) [
    | inl before ↦ inl before
    | inr (inl b) ↦ inr (inl b)
    | inr (inr w) ↦ inr (inr (w.0, w.1, whole_then files w.2))
  ]

  mode_then : now.files ≡ mid.files → (before : ℕ) → mode_of old name ≡ Some before
      → ((now.files file).mode ≡ (old.files file).mode) ⊎ ((now.files file).mode ≡ before)
  mode_then files before is = elim (placing.mode before is) [
    | inl same ↦ inl (ap (λ (fs : ℕ → File). (fs file).mode) files ∙ same)
    | inr taken ↦ inr (ap (λ (fs : ℕ → File). (fs file).mode) files ∙ taken)
  ]

  here_then : now.names ≡ mid.names → beside ≢ name → (now.names beside ≡ old.names beside) ⊎ (now.names beside ≡ None)
  here_then names differs = elim (placing.here differs) [
    | inl same ↦ inl (ap (λ (ns : Names). ns beside) names ∙ same)
    | inr gone ↦ inr (ap (λ (ns : Names). ns beside) names ∙ gone)
  ]

  pub placing_same : Same mid now → Placing file beside name bytes old now
  placing_same same = record {
    names = λ n. names_then same.files n (ap (λ (names : Names). names n) same.names);
    kept = λ n left among. kept_then same.files n left (lasting_same mid now same.names same.kept n left among);
    files = λ k differs. ap (λ (fs : ℕ → File). fs k) same.files ∙ placing.files k differs;
    here = here_then same.names;
    mode = mode_then same.files;
  }

  removes_kept : Removes beside mid now → (n : List ℕ) (left : Option ℕ) → Among (lasting now) n left
      → Among (lasting old) n left ⊎ (n ≡ beside) ⊎ ((n ≡ name) × (left ≡ old.names beside) × IsWhole file name bytes old now)
  removes_kept removes n left (inl is) = elim (removes.others n) [
    | inl b ↦ inr (inl b)
    | inr same ↦ kept_then removes.files n left (inl (is ∙ same))
  ]
  removes_kept removes n left (inr among) =
      kept_then removes.files n left (subst (λ (l : List Names). Among l n left) removes.kept among)

  pub placing_removes : Removes beside mid now → Placing file beside name bytes old now
  placing_removes removes = record {
    names = λ n. elim (removes.others n) [
      | inl b ↦ inr (inl b)
      | inr same ↦ names_then removes.files n same
    ];
    kept = removes_kept removes;
    files = λ k differs. ap (λ (fs : ℕ → File). fs k) removes.files ∙ placing.files k differs;
    here = λ differs. inr removes.here;
    mode = mode_then removes.files;
  }

  pub placing_synced : SyncsFolder mid now → Placing file beside name bytes old now
  placing_synced syncs = record {
    names = λ n. names_then syncs.files n (ap (λ (names : Names). names n) syncs.names);
    kept = λ n left among. elim among [
      | inl is ↦ kept_then syncs.files n left (inl (is ∙ ap (λ (names : Names). names n) syncs.names))
      | inr among ↦ absurd (subst (λ (l : List Names). Among l n left) syncs.kept among)
    ];
    files = λ k differs. ap (λ (fs : ℕ → File). fs k) syncs.files ∙ placing.files k differs;
    here = here_then syncs.names;
    mode = mode_then syncs.files;
  }

-- The writing to a new file and its naming, call by call.
module _ (file : ℕ) (beside name bytes : List ℕ) where
  abbrev IsPlaced : Moment → Moment → Type 0
  IsPlaced = Placing file beside name bytes

  -- it was given up
  abbrev pub PlacingFails : Error → Moment → Moment → Type 0
  PlacingFails error old now = Placing file beside name bytes old now × Fails error old now

  -- the bytes are on the disk
  pub record Written (old now : Moment) : Type 0 where
    pub touches : Touches file old now
    pub whole : IsWhole file name bytes old now
    pub no_fault : NoFault old now

  touches_same : (old now : Moment) → Same old now → Touches file old now
  touches_same old now same = record { names = same.names; kept = same.kept; files = λ k differs. ap (λ (fs : ℕ → File). fs k) same.files }

  touches_touches : (old mid now : Moment) → Touches file old mid → Touches file mid now → Touches file old now
  touches_touches old mid now a b = record {
    names = b.names ∙ a.names;
    kept = b.kept ∙ a.kept;
    files = λ k differs. b.files k differs ∙ a.files k differs;
  }

  placing_touches : (old now : Moment) → TouchesMode file name old now → Placing file beside name bytes old now
  placing_touches old now t = record {
    names = λ n. inl (ap (λ (names : Names). names n) t.touches.names);
    kept = λ n left among. inl (lasting_same old now t.touches.names t.touches.kept n left among);
    files = t.touches.files;
    here = λ differs. inl (ap (λ (names : Names). names beside) t.touches.names);
    mode = t.mode;
  }

  mode_perhaps : (old now : Moment) → Same old now ⊎ TouchesMode file name old now → TouchesMode file name old now
  mode_perhaps old now (inl same) =
      record { touches = touches_same old now same; mode = λ before is. inl (ap (λ (fs : ℕ → File). (fs file).mode) same.files) }
  mode_perhaps old now (inr touches) = touches

  content_perhaps : (old now : Moment) → Same old now ⊎ TouchesContent file old now → TouchesContent file old now
  content_perhaps old now (inl same) =
      record { touches = touches_same old now same; mode = ap (λ (fs : ℕ → File). (fs file).mode) same.files }
  content_perhaps old now (inr touches) = touches

  -- the file had its mode before
  mode_then_content : (old mid now : Moment) → Touches file old mid → Takes file name old mid → TouchesContent file mid now
      → TouchesMode file name old now
  mode_then_content old mid now touches takes content = record {
    touches = touches_touches old mid now touches content.touches;
    mode = λ before is. inr (content.mode ∙ takes.mode before is);
  }

  whole_moved : (old mid now : Moment) → now.files ≡ mid.files → IsWhole file name bytes old mid → IsWhole file name bytes old now
  whole_moved old mid now files w = record {
    content = λ empty. ap (λ (fs : ℕ → File). (fs file).content) files ∙ w.content empty;
    synced = ap (λ (fs : ℕ → File). (fs file).synced) files ∙ w.synced;
    mode = λ before is. ap (λ (fs : ℕ → File). (fs file).mode) files ∙ w.mode before is;
    plain = w.plain;
  }

  moved_kept : (old mid now : Moment) → Touches file old mid → IsWhole file name bytes old now → Moves beside name mid now
      → (n : List ℕ) (left : Option ℕ) → Among (lasting now) n left
      → Among (lasting old) n left ⊎ (n ≡ beside) ⊎ ((n ≡ name) × (left ≡ old.names beside) × IsWhole file name bytes old now)
  moved_kept old mid now touches whole moves n left (inl is) = elim (moves.others n) [
    | inl b ↦ inr (inl b)
    | inr (inl e) ↦ inr (inr (e, is ∙ (ap now.names e ∙ (moves.here ∙ ap (λ (names : Names). names beside) touches.names)), whole))
    | inr (inr same) ↦ inl (inl (is ∙ (same ∙ ap (λ (names : Names). names n) touches.names)))
  ]
  moved_kept old mid now touches whole moves n left (inr among) =
      inl (lasting_same old mid touches.names touches.kept n left (subst (λ (l : List Names). Among l n left) moves.kept among))

  placing_moves : (old mid now : Moment) → Written old mid → Moves beside name mid now → Placing file beside name bytes old now
  placing_moves old mid now written moves =
      let whole : IsWhole file name bytes old now = whole_moved old mid now moves.files written.whole in
      record {
        names = λ n. elim (moves.others n) [
          | inl b ↦ inr (inl b)
          | inr (inl e) ↦ inr (inr (e, ap now.names e ∙ (moves.here ∙ ap (λ (names : Names). names beside) written.touches.names), whole))
          | inr (inr same) ↦ inl (same ∙ ap (λ (names : Names). names n) written.touches.names)
        ];
        kept = moved_kept old mid now written.touches whole moves;
        files = λ k differs. ap (λ (fs : ℕ → File). fs k) moves.files ∙ written.touches.files k differs;
        here = λ differs. inr (moves.gone differs);
        mode = λ before is. inr (whole.mode before is);
      }

  placed_moves : (old mid now : Moment) → Written old mid → Moves beside name mid now → NoFault mid now → IsPlacedWhole file beside name bytes old now
  placed_moves old mid now written moves none = record {
    placing = placing_moves old mid now written moves;
    gone = moves.gone;
    here = moves.here ∙ ap (λ (names : Names). names beside) written.touches.names;
    others = λ n. elim (moves.others n) [
      | inl b ↦ inl b
      | inr (inl e) ↦ inr (inl e)
      | inr (inr same) ↦ inr (inr (same ∙ ap (λ (names : Names). names n) written.touches.names))
    ];
    whole = whole_moved old mid now moves.files written.whole;
    no_fault = none ∙ written.no_fault;
  }

  -- the file has these bytes, and the mode of the name's file
  record Filled (filled : List ℕ) (old now : Moment) : Type 0 where
    touches : Touches file old now
    content : (old.files file).content ≡ Plain [] → (now.files file).content ≡ Plain filled
    takes : Takes file name old now
    no_fault : NoFault old now

  pub put_mode_fails : (error : Error) (h0 h1 : Option History) → Goes (Perhaps error (TouchesMode file name)) h0 h1 → Since IsPlaced (PlacingFails error) h0 h1
  put_mode_fails error = since_call (Perhaps error (TouchesMode file name)) IsPlaced (PlacingFails error)
      (λ m n step. placing_touches m n (mode_perhaps m n step.0))
      (λ m n step. (placing_touches m n (mode_perhaps m n step.0), step.1))

  moded : (h0 h1 : Option History) → Goes (Well (TakesMode file name)) h0 h1 → Since IsPlaced (Filled []) h0 h1
  moded = since_call (Well (TakesMode file name)) IsPlaced (Filled [])
      (λ m n step. placing_touches m n (record { touches = step.0.touches; mode = λ before is. inr (step.0.mode before is) }))
      (λ m n step. record {
        touches = step.0.touches;
        content = λ empty. step.0.content ∙ empty;
        takes = record { mode = step.0.mode; plain = step.0.plain };
        no_fault = step.1;
      })

  filled_fails : (filled : List ℕ) (error : Error) (k : ℕ) → k ≡ file → (h0 h1 h2 : Option History) → Since IsPlaced (Filled filled) h0 h1
      → Goes (Perhaps error (TouchesContent k)) h1 h2 → Since IsPlaced (PlacingFails error) h0 h2
  filled_fails filled error k is h0 h1 h2 a b =
      let step : Goes (Perhaps error (TouchesContent file)) h1 h2 = subst (λ (j : ℕ). Goes (Perhaps error (TouchesContent j)) h1 h2) is b in
      since_since IsPlaced (Filled filled) (TouchesContent file) (Perhaps error (TouchesContent file)) IsPlaced (PlacingFails error)
      (λ m n p. p)
      (λ l m n x y. placing_touches l n (mode_then_content l m n x.touches x.takes y))
      (λ l m n x y. (placing_touches l n (mode_then_content l m n x.touches x.takes (content_perhaps m n y.0)), fails_after error l m n x.no_fault y.1))
      h0 h1 h2 a
      (since_call (Perhaps error (TouchesContent file)) (TouchesContent file) (Perhaps error (TouchesContent file)) (λ m n s. content_perhaps m n s.0) (λ m n s. s) h1 h2 step)

  pub put_append_fails : (error : Error) (h0 h1 h2 : Option History) → Goes (Well (TakesMode file name)) h0 h1
      → Goes (Perhaps error (TouchesContent file)) h1 h2 → Since IsPlaced (PlacingFails error) h0 h2
  put_append_fails error h0 h1 h2 a b = filled_fails [] error file refl h0 h1 h2 (moded h0 h1 a) b

  filled_then : (l m n : Moment) → Filled [] l m → Well (AppendsToFile file bytes) m n → Filled bytes l n
  filled_then l m n x y = record {
    touches = touches_touches l m n x.touches y.0.touches;
    content = λ empty. y.0.content [] (x.content empty);
    takes = record { mode = λ before is. y.0.mode ∙ x.takes.mode before is; plain = x.takes.plain };
    no_fault = y.1 ∙ x.no_fault;
  }

  appended : (h0 h1 h2 : Option History) → Goes (Well (TakesMode file name)) h0 h1 → Goes (Well (AppendsToFile file bytes)) h1 h2
      → Since IsPlaced (Filled bytes) h0 h2
  appended h0 h1 h2 a b =
      since_since IsPlaced (Filled []) (TouchesContent file) (Well (AppendsToFile file bytes)) IsPlaced (Filled bytes)
      (λ m n p. p)
      (λ l m n x y. placing_touches l n (mode_then_content l m n x.touches x.takes y))
      filled_then
      h0 h1 h2 (moded h0 h1 a)
      (since_call (Well (AppendsToFile file bytes)) (TouchesContent file) (Well (AppendsToFile file bytes)) (λ m n s. record { touches = s.0.touches; mode = s.0.mode }) (λ m n s. s) h1 h2 b)

  pub put_sync_fails : (error : Error) (k : ℕ) → k ≡ file → (h0 h1 h2 h3 : Option History) → Goes (Well (TakesMode file name)) h0 h1
      → Goes (Well (AppendsToFile file bytes)) h1 h2 → Goes (Perhaps error (TouchesContent k)) h2 h3 → Since IsPlaced (PlacingFails error) h0 h3
  put_sync_fails error k is h0 h1 h2 h3 a b d = filled_fails bytes error k is h0 h2 h3 (appended h0 h1 h2 a b) d

  written : (k : ℕ) → k ≡ file → (h0 h1 h2 h3 : Option History) → Goes (Well (TakesMode file name)) h0 h1
      → Goes (Well (AppendsToFile file bytes)) h1 h2 → Goes (Well (Syncs k)) h2 h3 → Since IsPlaced Written h0 h3
  written k is h0 h1 h2 h3 a b d =
      let step : Goes (Well (Syncs file)) h2 h3 = subst (λ (j : ℕ). Goes (Well (Syncs j)) h2 h3) is d in
      since_since IsPlaced (Filled bytes) (TouchesContent file) (Well (Syncs file)) IsPlaced Written
      (λ m n p. p)
      (λ l m n x y. placing_touches l n (mode_then_content l m n x.touches x.takes y))
      (λ l m n x y. record {
        touches = touches_touches l m n x.touches y.0.touches;
        whole = record {
          content = λ empty. y.0.content ∙ x.content empty;
          synced = y.0.synced;
          mode = λ before is. y.0.mode ∙ x.takes.mode before is;
          plain = x.takes.plain;
        };
        no_fault = y.1 ∙ x.no_fault;
      })
      h0 h2 h3 (appended h0 h1 h2 a b)
      (since_call (Well (Syncs file)) (TouchesContent file) (Well (Syncs file)) (λ m n s. record { touches = s.0.touches; mode = s.0.mode }) (λ m n s. s) h2 h3 step)

  abbrev IsMoved : Moment → Moment → Type 0
  IsMoved mid now = Same mid now ⊎ Moves beside name mid now

  placing_moved : (old mid now : Moment) → Written old mid → IsMoved mid now → Placing file beside name bytes old now
  placing_moved old mid now w (inl same) = placing_touches old now (record {
    touches = touches_touches old mid now w.touches (touches_same mid now same);
    mode = λ before is. inr (ap (λ (fs : ℕ → File). (fs file).mode) same.files ∙ w.whole.mode before is);
  })
  placing_moved old mid now w (inr moves) = placing_moves old mid now w moves

  pub put_placed : (k : ℕ) → k ≡ file → (h0 h1 h2 h3 h4 : Option History) → Goes (Well (TakesMode file name)) h0 h1
      → Goes (Well (AppendsToFile file bytes)) h1 h2 → Goes (Well (Syncs k)) h2 h3 → Goes (Well (Moves beside name)) h3 h4
      → Since IsPlaced (IsPlacedWhole file beside name bytes) h0 h4
  put_placed k is h0 h1 h2 h3 h4 a b d e =
      since_since IsPlaced Written IsMoved (Well (Moves beside name)) IsPlaced (IsPlacedWhole file beside name bytes)
      (λ m n p. p)
      placing_moved
      (λ l m n x y. placed_moves l m n x y.0 y.1)
      h0 h3 h4 (written k is h0 h1 h2 h3 a b d)
      (since_call (Well (Moves beside name)) IsMoved (Well (Moves beside name)) (λ m n s. inr s.0) (λ m n s. s) h3 h4 e)

  pub put_move_fails : (error : Error) (k : ℕ) → k ≡ file → (h0 h1 h2 h3 h4 : Option History) → Goes (Well (TakesMode file name)) h0 h1
      → Goes (Well (AppendsToFile file bytes)) h1 h2 → Goes (Well (Syncs k)) h2 h3 → Goes (Perhaps error (Moves beside name)) h3 h4
      → Since IsPlaced (PlacingFails error) h0 h4
  put_move_fails error k is h0 h1 h2 h3 h4 a b d e =
      since_since IsPlaced Written IsMoved (Perhaps error (Moves beside name)) IsPlaced (PlacingFails error)
      (λ m n p. p)
      placing_moved
      (λ l m n x y. (placing_moved l m n x y.0, fails_after error l m n x.no_fault y.1))
      h0 h3 h4 (written k is h0 h1 h2 h3 a b d)
      (since_call (Perhaps error (Moves beside name)) IsMoved (Perhaps error (Moves beside name)) (λ m n s. s.0) (λ m n s. s) h3 h4 e)
