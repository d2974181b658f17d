-- What is held together after one piece is changed, and what that makes of the pieces.
use Rattle.std.proofs.Common.{◌≡◌, ℕ, ◌+◌, ◌-◌, ◌≤◌, ◌<◌, ◌^◌, List, [], ◌∷◌, map, sym, ap, subst, ◌∙◌, arith}
use Rattle.operations.specs.NameSet.{Range}
use Rattle.piece_raw.specs.Ring.{HasTag, with_value}
use Rattle.rank_index.specs.Ranked.{weight_of}
use Rattle.tree_order.specs.Registers.{if_named}
use Rattle.char_files.specs.CharName.{CharName}
use Rattle.piece_list.specs.declared.setting.Setting.{Setting}
use Rattle.piece_list.specs.Piece.{Piece}
use Rattle.piece_list.specs.Changing.{AreTheSame, IsEdge, IsNextEdge, changed_char, changed_piece, setting_key}
use Rattle.piece_list.specs.Laws.{IsPieceBelow}
use Rattle.piece_list.specs.Held.{AreHeld}
use Rattle.piece_list.specs.Spelled.{spelled}
use Rattle.piece_list.specs.Tables.{Tables}
use Rattle.piece_list.proofs.ChangedPiece.{IsTurn, same_names, edges_after, entered_after, changed_there, spot_stays}
use Rattle.piece_list.proofs.Splitting.{as_many, written_tags}
use Rattle.piece_list.proofs.SplitList.{is_piece}
use Rattle.piece_list.proofs.Edges.{edge_after, edge_of}
use Rattle.piece_list.proofs.Keyed.{changed_key, keyed_with}
use Rattle.piece_list.proofs.Positions.{Items, own, small_count}
use Rattle.piece_list.proofs.Weighed.{Weights, has_weight, set_fits, set_weighed, total_is_shown}

-- what a change of one piece makes, of the pieces and of what is held beside them
pub record IsTurned (setting : Setting) (items : Items) (tables : Tables) (weights : Weights) (keys : List ℕ) (tag : ℕ) (p w : Piece)
    (name : CharName) : Type 0 where
  pub turn : IsTurn items tag p w name
  pub is_weighed : HasTag weights tag
  pub entry_fits : weight_of weights + w.len < 2 ^ 64
  pub weight_fits : (weight : ℕ) → weight ≡ own w w.len → weight_of (with_value tag weight weights) < 2 ^ 64
  pub next_edge : IsNextEdge name (w.off + w.len) items
  pub names : spelled (with_value tag w items)
      ≡ map (if_named (record { site = name.site; at = name.off; len = w.off + w.len - name.off } ∷ [])
      (changed_char setting)) (spelled items)
  pub same : AreTheSame items (with_value tag w items)
  pub held : (weight : ℕ) → weight ≡ own w w.len
      → AreHeld (with_value tag w items) tables (with_value tag weight weights) keys

module _ (setting : Setting) (items : Items) (tables : Tables) (weights : Weights) (keys : List ℕ) (tag : ℕ) (p w : Piece)
    (name : CharName) (held : AreHeld items tables weights keys) (t : IsTurn items tag p w name)
    (is_w : w ≡ changed_piece setting p) (below : IsPieceBelow (setting_key setting) p)
  where
    abbrev new : Items
    new = with_value tag w items

    same_len : w.len ≡ p.len
    same_len = ap (λ (r : Range). r.len) t.same

    short : w.len ≤ 4096
    short = omega (arith, same_len, (is_piece items tag p held.entered.pieces t.member).1)

    is_weighed : HasTag weights tag
    is_weighed = has_weight items weights tag held.indexed (p, t.member)

    -- an entry of the piece's characters ends at a number that fits
    entry_fits : weight_of weights + w.len < 2 ^ 64
    entry_fits = omega (
      arith,
      short,
      total_is_shown items weights held.indexed,
      small_count items tables held.numbered held.entered,
    )

    weight_fits : (weight : ℕ) → weight ≡ own w w.len → weight_of (with_value tag weight weights) < 2 ^ 64
    weight_fits weight by =
        let fits : weight_of (with_value tag weight weights) ≤ 2 ^ 40 + 4096 =
        set_fits items weights tag weight p w held.indexed t.member by tables held.numbered held.entered short in
        omega (arith, fits)

    next_edge : IsNextEdge name (w.off + w.len) items
    next_edge = record {
      some = omega (arith, t.end, t.held.2);
      edge = subst (λ (s : ℕ). IsEdge s (w.off + w.len) items) (sym t.held.0)
          (subst (λ (o : ℕ). IsEdge p.site o items) (sym t.end)
          (edge_after items tables held.numbered held.entered tag p t.member));
      first = λ at lt edge.
          let past : p.off + p.len ≤ at = edge_of items name.site at edge tag p t.member (sym t.held.0)
          (omega (arith, t.off, lt)) in
          omega (arith, t.end, past);
    }

    names_turned : spelled new
        ≡ map (if_named (record { site = name.site; at = name.off; len = w.off + w.len - name.off } ∷ [])
        (changed_char setting)) (spelled items)
    names_turned =
        changed_there setting items tables tag p w held.numbered held.entered t.member is_w below
        ∙ ap (λ (r : Range). map (if_named (r ∷ []) (changed_char setting)) (spelled items))
        (same_names p w name t.same t.held t.off)

    are_the_same : AreTheSame items new
    are_the_same = record {
      many = as_many tag w items;
      edges = edges_after setting items tables tag p w held.numbered held.entered t.member is_w;
      firsts = λ s d is. spot_stays setting items tables tag p w held.numbered held.entered t.member is_w
          (record { piece = s; within = 0 }) d is;
    }

    held_after : (weight : ℕ) → weight ≡ own w w.len → AreHeld new tables (with_value tag weight weights) keys
    held_after weight by = record {
      numbered = written_tags tag w items held.numbered;
      entered = entered_after setting items tables tag p w held.numbered held.entered t.member is_w;
      indexed = set_weighed items weights tag weight p w held.indexed t.member by;
      keyed = keyed_with items keys tag p w held.keyed t.member (ap (λ (q : Piece). q.key) is_w ∙ changed_key setting p);
    }

    pub is_turned : IsTurned setting items tables weights keys tag p w name
    is_turned = record {
      turn = t;
      is_weighed = is_weighed;
      entry_fits = entry_fits;
      weight_fits = weight_fits;
      next_edge = next_edge;
      names = names_turned;
      same = are_the_same;
      held = held_after;
    }
