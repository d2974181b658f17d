use Rattle.std.proofs.Common.{◌≡◌, ◌∙◌, ℕ, List, None, Some, Vec, ap}
use Rattle.std.specs.BTreeMap.{get_by_text}
use Rattle.std.specs.Global.{Global}
use Rattle.std.specs.Option.{option_map}
use Rattle.shelf.specs.Memory.{Tree, files_in}
use Rattle.shelf.proofs.memory_shelf.MemoryShelfShelf.read.Goals as goal

-- a file that was found is there
is_there : (tree : Tree) (name : List ℕ) (file : Vec ℕ Global) → Some file ≡ get_by_text tree name
    → files_in tree name ≡ None → ⊥
is_there tree name file found none =
    let some : Some file.items ≡ None = ap (option_map (λ (v : Vec ℕ Global). v.items)) found ∙ none in cc

-- a file that wasn't found isn't there
is_absent : (tree : Tree) (name bytes : List ℕ) → None ≡ get_by_text tree name → files_in tree name ≡ Some bytes → ⊥
is_absent tree name bytes none found =
    let some : None ≡ Some bytes = ap (option_map (λ (v : Vec ℕ Global). v.items)) none ∙ found in cc

pub returns-in_err-from_slice-in-Some-clause-absent :
    goal.returns-in_err-from_slice-in-Some-clause-absent
returns-in_err-from_slice-in-Some-clause-absent c = λ none.
    absurd (is_there c.is_to_fail.new.self.files c.args.name.now c.in-Some.bytes.now c.in-Some.ensures.value
    (ap (λ (t : Tree). files_in t c.args.name.now) c.is_to_fail.ensures.files ∙ none))

pub returns-in_ok-from_slice-in-Some-clause-absent :
    goal.returns-in_ok-from_slice-in-Some-clause-absent
returns-in_ok-from_slice-in-Some-clause-absent c = λ none.
    absurd (is_there c.is_to_fail.new.self.files c.args.name.now c.in-Some.bytes.now c.in-Some.ensures.value
    (ap (λ (t : Tree). files_in t c.args.name.now) c.is_to_fail.ensures.files ∙ none))

pub returns-in-None-clause-good : goal.returns-in-None-clause-good
returns-in-None-clause-good c = λ bytes good some.
    absurd (is_absent c.is_to_fail.new.self.files c.args.name.now bytes c.in-None.ensures.value
    (ap (λ (t : Tree). files_in t c.args.name.now) c.is_to_fail.ensures.files ∙ some))
