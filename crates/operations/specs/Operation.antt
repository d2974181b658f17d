-- What an operation is, and which names it inserts and mentions.
use Rattle.std.specs.Prelude.{◌≡◌, ℕ, List, [], ◌∷◌, length}
use Rattle.looks.specs.declared.key.Key.{Key}
use Rattle.looks.specs.declared.looks.Looks.{Looks}
use Rattle.looks.specs.Sel.{Selection}
use Rattle.char_files.specs.CharName.{CharName}
use Rattle.char_files.specs.declared.name.Anchor.{Anchor}
use Rattle.char_files.specs.declared.name.Anchor.TheVariants.{Root, At}
use Rattle.operations.specs.NameSet.{Range, IsIn, IsAmong, names_in}

-- An insert puts bytes of one set of looks into the tree below the cause, and at the end of its site's file,
-- which was at bytes long. A delete hides the characters that it names, a restore shows them again. A
-- change of looks sets what is selected for those that it names.
pub data OpKind : Type 0 where
  insert : (cause : Anchor) (at : ℕ) (looks : Looks) (bytes : List ℕ) → OpKind
  delete : (names : List Range) → OpKind
  restore : (names : List Range) → OpKind
  change_looks : (sel : Selection) (looks : Looks) (names : List Range) → OpKind

-- the text, the identity (the site, and the operation's number among its site's), the stamp, and what it does
pub record Operation : Type 0 where
  pub text : ℕ
  pub site : ℕ
  pub seq : ℕ
  pub stamp : ℕ
  pub kind : OpKind

-- the key of an operation
abbrev pub key_of : Operation → Key
key_of op = record { stamp = op.stamp; site = op.site }

-- how many bytes an operation appends to its site's file
abbrev pub appended_len : OpKind → ℕ
appended_len (insert cause at looks bytes) = length bytes
appended_len (delete names) = 0
appended_len (restore names) = 0
appended_len (change_looks sel looks names) = 0

-- an Insert says this length of its site's file
abbrev pub Begins : OpKind → ℕ → Type 0
Begins (insert cause at looks bytes) len = at ≡ len
Begins (delete names) len = Unit {0}
Begins (restore names) len = Unit {0}
Begins (change_looks sel looks names) len = Unit {0}

-- what an Insert of this site inserts; the other kinds insert nothing
abbrev pub InsertsBy : ℕ → OpKind → CharName → Type 0
InsertsBy site (insert cause at looks bytes) name =
    IsIn (record { site = site; at = at; len = length bytes }) name
InsertsBy site (delete names) name = ⊥
InsertsBy site (restore names) name = ⊥
InsertsBy site (change_looks sel looks names) name = ⊥

-- the operation inserts the character of this name
abbrev pub Inserts : Operation → CharName → Type 0
Inserts op name = InsertsBy op.site op.kind name

-- what each kind mentions: an Insert its cause, unless that is the root; the others their sets
abbrev pub MentionsBy : OpKind → CharName → Type 0
MentionsBy (insert Root at looks bytes) name = ⊥
MentionsBy (insert (At cause) at looks bytes) name = name ≡ cause
MentionsBy (delete names) name = IsAmong names name
MentionsBy (restore names) name = IsAmong names name
MentionsBy (change_looks sel looks names) name = IsAmong names name

-- the operation mentions this name: its cause, or one of its set
abbrev pub Mentions : Operation → CharName → Type 0
Mentions op name = MentionsBy op.kind name

-- what each kind mentions, in order: an Insert its cause, unless that is the root; the others the names of
-- their sets, rising
abbrev pub mentioned_names_by : OpKind → List CharName
mentioned_names_by (insert Root at looks bytes) = []
mentioned_names_by (insert (At cause) at looks bytes) = cause ∷ []
mentioned_names_by (delete names) = names_in names
mentioned_names_by (restore names) = names_in names
mentioned_names_by (change_looks sel looks names) = names_in names

-- the names that the operation mentions, in order: its cause, or those of its set
abbrev pub mentioned_names : Operation → List CharName
mentioned_names op = mentioned_names_by op.kind
