-- Paths of the tree, joined and taken apart at their ends.
use Rattle.std.proofs.Common.{◌≡◌, List, [], ◌∷◌, ◌++◌, refl, sym, ap, subst, ◌∙◌}
use Rattle.char_files.specs.CharName.{CharName}
use Rattle.char_files.specs.declared.name.Anchor.{Anchor}
use Rattle.char_files.specs.declared.name.Anchor.TheVariants.{At}
use Rattle.operations.specs.Operation.{Operation}
use Rattle.tree_order.specs.Tree.{IsParent, LeadsDown}

-- a way on from where a path ends
pub Leads-append : (ops : List Operation) (a b c : Anchor) (p q : List CharName) → LeadsDown ops a p b
    → LeadsDown ops b q c → LeadsDown ops a (p ++ q) c
Leads-append ops a b c [] q h k = subst (λ (x : Anchor). LeadsDown ops x q c) (sym h) k
Leads-append ops a b c (d ∷ p) q h k = (h.0, Leads-append ops (At d) b c p q h.1 k)

-- a path ends at one anchor
pub Leads-end : (ops : List Operation) (a b c : Anchor) (path : List CharName) → LeadsDown ops a path b
    → LeadsDown ops a path c → b ≡ c
Leads-end ops a b c [] h k = sym h ∙ k
Leads-end ops a b c (d ∷ path) h k = Leads-end ops (At d) b c path h.1 k.1

-- a path's last step: from x, where the others end, to the character on it
pub record LastStep (ops : List Operation) (a : Anchor) (path : List CharName) (b : Anchor) : Type 0 where
  pub front : List CharName
  pub last : CharName
  pub x : Anchor
  pub is : path ≡ front ++ last ∷ []
  pub leads : LeadsDown ops a front x
  pub hangs : IsParent ops last x
  pub ends : At last ≡ b

-- a path that isn't empty has a last step
pub last_step : (ops : List Operation) (a b : Anchor) (c : CharName) (path : List CharName)
    → LeadsDown ops a (c ∷ path) b → LastStep ops a (c ∷ path) b
last_step ops a b c [] h = record {
  front = [];
  last = c;
  x = a;
  is = refl;
  leads = refl;
  hangs =
      h.0;
  ends = h.1;
}
last_step ops a b c (d ∷ path) h =
    let s : LastStep ops (At c) (d ∷ path) b = last_step ops (At c) b d path h.1 in
    record {
      front = c ∷ s.front;
      last = s.last;
      x = s.x;
      is = ap (λ (xs : List CharName). c ∷ xs) s.is;
      leads = (h.0, s.leads);
      hangs = s.hangs;
      ends = s.ends;
    }
