-- Looks that aren't selected don't count.
use Rattle.std.proofs.Common.{◌≡◌, ℕ, Bool, true, false, cond, List, ◌++◌, take, drop, refl, ap}
use Rattle.std.specs.List.{slice_range}
use Rattle.looks.specs.Sel.{Selection}
use Rattle.looks.specs.declared.looks.Looks.{Looks}
use Rattle.char_files.specs.declared.character.Char.{Char}
use Rattle.texts.specs.Order.{dress, dressed, with_selected}
use Rattle.texts.proofs.OwnStretch.{map_agrees}

again : {V : Type 0} (b : Bool) (new other old : V) → cond b (cond b new other) old ≡ cond b new old
again true new other old = refl
again false new other old = refl

selected_again : (sel : Selection) (looks other old : Looks)
    → with_selected sel (with_selected sel looks other) old ≡ with_selected sel looks old
selected_again sel looks other old =
    rw (
      again sel.font looks.font other.font old.font,
      again sel.colour looks.colour other.colour old.colour,
      again sel.offset looks.offset other.offset old.offset,
    ) refl

pub dressed_again : (sel : Selection) (looks other : Looks) (shown : List Char) (beg end : ℕ)
    → dress sel (with_selected sel looks other) shown beg end ≡ dress sel looks shown beg end
dressed_again sel looks other shown beg end =
    let selected : Looks = with_selected sel looks other in
    let same : (c : Char) → dressed sel selected c ≡ dressed sel looks c =
    λ c. ap (λ (l : Looks). record c { looks = l }) (selected_again sel looks other c.looks) in
    ap (λ (cs : List Char). take beg shown ++ cs ++ drop end shown)
    (map_agrees (dressed sel selected) (dressed sel looks) (slice_range shown beg end)
    (λ k d lt. same _))
