-- How the links and the table of a ring agree.
use Rattle.std.specs.Prelude.{◌≡◌, ℕ, ◌<◌, List, [], ◌∷◌, ◌++◌, map, length, slice_get, Option, Some, None}
use Rattle.std.specs.Prelude.{option_map, cond}
use Rattle.std.specs.List.{AllByRecursion}
use denote.RawPtr.{Ptr}
use Rattle.piece_raw.specs.Linked.{Linked, same_ptr}
use Rattle.piece_raw.specs.declared.nodes.Member.{Member}
use Rattle.piece_raw.specs.declared.nodes.Nodes.{Nodes}
use Rattle.piece_raw.specs.declared.block.Block.{Block}

-- what a node holds: a member, or nothing in the trailer
abbrev pub Held : Type 0 → Type 0
Held T = Option (Member T)

module _ {T : Type 0} where
  -- a node's member, if it has one
  abbrev pub item_of : Held T → List (ℕ × T)
  item_of None = []
  item_of (Some m) = (m.tag, m.value) ∷ []

  -- the members of nodes
  abbrev pub members : List (Linked (Held T)) → List (ℕ × T)
  members [] = []
  members (n ∷ ns) = item_of n.value ++ members ns

  -- the nodes from the one on that lies there; none where none does
  abbrev pub nodes_from : Ptr → List (Linked (Held T)) → List (Linked (Held T))
  nodes_from p [] = []
  nodes_from p (n ∷ ns) = cond (same_ptr n.at p) (n ∷ ns) (nodes_from p ns)

  -- where a cursor at the node stands
  abbrev pub stop_of : Linked (Held T) → Option ℕ
  stop_of n = option_map (λ m. m.tag) n.value

  -- x is one of ns
  abbrev pub IsNodeAmong : List (Linked (Held T)) → Linked (Held T) → Type 0
  IsNodeAmong ns x = (xs : List (Linked (Held T))) × (ys : List (Linked (Held T))) × (ns ≡ xs ++ x ∷ ys)

  -- a cursor can stand there
  abbrev pub IsStop : List (Linked (Held T)) → Option ℕ → Type 0
  IsStop ns stop = (x : Linked (Held T)) × IsNodeAmong ns x × (stop_of x ≡ stop)

  -- where the nodes of a table lie
  abbrev pub spots : {A : Type 0} → List (Block (Held T) A) → List Ptr
  spots = map (λ b. b.node.ptr)

  -- the node has a member, whose tag is its place in the table
  abbrev pub HoldsMember : List Ptr → Linked (Held T) → Type 0
  HoldsMember ps n = (m : Member T) × (n.value ≡ Some m) × (slice_get ps m.tag ≡ Some n.at)

  -- the block is of the node that it names
  abbrev pub IsBlock : {A : Type 0} → Block (Held T) A → Type 0
  IsBlock b = b.deed.at ≡ b.node.ptr

  -- each node has its place in the table, and each place its node
  pub record Matches (ps : List Ptr) (ns : List (Linked (Held T))) : Type 0 where
    pub held : AllByRecursion (HoldsMember ps) ns
    pub full : (k : ℕ) → k < length ps → IsStop ns (Some k)
    pub counted : length ns ≡ length ps

  pub record IsTied (n : Nodes T) : Type 0 where
    pub matches : Matches (spots n.table.items) n.links.nodes
    pub deeds : AllByRecursion IsBlock n.table.items
    pub trailer_at : n.trailer.node.ptr ≡ n.links.trailer.at
    pub trailer_empty : n.links.trailer.value ≡ None
    pub trailer_block : IsBlock n.trailer

  -- the trailer and the other nodes
  abbrev pub all_nodes : Nodes T → List (Linked (Held T))
  all_nodes n = n.links.trailer ∷ n.links.nodes
