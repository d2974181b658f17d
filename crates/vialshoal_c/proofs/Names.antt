-- Names that C hands in are those of characters where the ranges that they make are.
use Rattle.std.proofs.Common.{◌≡◌, ◌+◌, Bool, true, false, ◌&&◌, nat_le, List, [], ◌∷◌, refl, sym, ap}
use Rattle.std.specs.List.{list_all}
use Rattle.std.proofs.lemmas.Bool.{and_parts, true≢false}
use Rattle.set_laws.specs.Fronts.{file_len}
use Rattle.texts.specs.Named.{are_here}
use Rattle.texts.specs.TextState.{TextState}
use Rattle.vialshoal_c.specs.Naming.{is_here, is_range, replica_ranges}
use Rattle.vialshoal_c.specs.declared.inputs.CharNames.{CharNames}

joined : (valid here others all : Bool) → valid ≡ true → others ≡ all → ((valid && here) && others) ≡ (here && all)
joined true here others all is same = ap (λ (b : Bool). here && b) same
joined false here others all is same = absurd (true≢false (sym is))

pub all_here : (t : TextState) (names : List CharNames) → list_all is_range names ≡ true
    → list_all (is_here t) names ≡ are_here t (replica_ranges names)
all_here t [] are = refl
all_here t (n ∷ names) are =
    let (first, others) = and_parts (is_range n) (list_all is_range names) are in
    joined (is_range n) (nat_le (n.offset + n.len) (file_len t.operations n.site)) (list_all (is_here t) names)
    (are_here t (replica_ranges names)) first (all_here t names others)
