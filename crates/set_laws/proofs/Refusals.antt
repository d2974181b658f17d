-- What a greater good set says of an operation that follows on.
use Rattle.std.proofs.Common.{◌≡◌, ℕ, ◌<◌, inl, inr, List, Contains, sym, subst, ◌∙◌}
use Rattle.operations.specs.Operation.{Operation, Begins}
use Rattle.tree_order.specs.Good.{Good, file_before}
use Rattle.set_laws.specs.Fronts.{file_len}
use Rattle.set_laws.specs.Sets.{IsPartOf, AreIdentified}
use Rattle.set_laws.specs.Verdict.{IsNew, FollowsOn, FitsFile, HasForeignNames, IsAboveCauses, HasVerdict}
use Rattle.set_laws.specs.Verdict.{wait, misfit, low_stamp, ready}
use Rattle.set_laws.specs.Growing.{NeverMakesAGoodSet, RefusalsLast}
use Rattle.set_laws.proofs.Lengths.{part_identified}
use Rattle.set_laws.proofs.Files.{next_file, here_is_char, char_is_here}

module _ (ops more : List Operation) (op : Operation) (good : Good ops) (good' : Good more)
    (known : AreIdentified more) (within : IsPartOf ops more) where
  -- in a good set that has it, it is placed and stands above its causes
  pub placed_if_held : IsNew ops op → Contains more op → FollowsOn ops op → FitsFile ops op
  placed_if_held new held follows =
      let file : file_len ops op.site ≡ file_before more op.site op.seq =
      next_file ops more good within known op new follows in
      record {
        begins = subst (Begins op.kind) (sym file) (good'.begins op held);
        own = λ name m on. subst (λ (s : ℕ). name.off < file_len ops s) (sym on)
            (subst (λ (n : ℕ). name.off < n) (sym file) (good'.own op name held m on));
      }

  pub above_if_held : Contains more op → IsAboveCauses ops op
  above_if_held held p there cause = good'.stamps op p held (within p there) cause

  -- a set that has more lacks no cause, and calls the same stretch the file's end
  new_before : IsNew more op → IsNew ops op
  new_before new = record {
    counted = new.counted;
    unheld = λ h. let (x, held, on, at) = h in new.unheld (x, within x held, on, at);
  }

  follows_later : FollowsOn ops op → FollowsOn more op
  follows_later follows later = let (p, held, is) = follows later in (p, within p held, is)

  same_end : IsNew more op → FollowsOn ops op → file_len ops op.site ≡ file_len more op.site
  same_end new follows =
      next_file ops more good within known op (new_before new) follows
      ∙ sym (next_file more more good' (λ x held. held) known op new (follows_later follows))

  placed_by_end : (a b : List Operation) → file_len a op.site ≡ file_len b op.site → FitsFile a op
      → FitsFile b op
  placed_by_end a b same placed = record {
    begins = subst (Begins op.kind) same placed.begins;
    own = λ name m on. subst (λ (s : ℕ). name.off < file_len b s) (sym on)
        (subst (λ (n : ℕ). name.off < n) same
        (subst (λ (s : ℕ). name.off < file_len a s) on (placed.own name m on)));
  }

  foreign_later : HasForeignNames ops op → HasForeignNames more op
  foreign_later foreign name m other =
      let known_before = part_identified ops more within known in
      let (i, is) = here_is_char ops good known_before name (foreign name m other) in
      char_is_here more good' known name
      (i, record { held = within i is.held; inserts = is.inserts })

  pub refusals_last : IsNew more op → RefusalsLast ops op more
  refusals_last new misfit which h = (
    follows_later h.0,
    λ placed. h.1 (placed_by_end more ops (sym (same_end new h.0)) placed),
  )
  refusals_last new low_stamp which h = (
    follows_later h.0,
    placed_by_end ops more (same_end new h.0) h.1,
    foreign_later h.2,
    λ above. h.3 (λ p held. above p (within p held)),
  )
  refusals_last new wait (inl e) h = absurd cc
  refusals_last new wait (inr e) h = absurd cc
  refusals_last new ready (inl e) h = absurd cc
  refusals_last new ready (inr e) h = absurd cc

-- what is refused never makes a good set
pub misfit_never : (ops : List Operation) (op : Operation) → Good ops → IsNew ops op
    → HasVerdict ops op misfit → NeverMakesAGoodSet ops op
misfit_never ops op good new (follows, misplaced) more known within held good' =
    misplaced (placed_if_held ops more op good good' known within new held follows)

pub low_stamp_never : (ops : List Operation) (op : Operation) → Good ops
    → HasVerdict ops op low_stamp → NeverMakesAGoodSet ops op
low_stamp_never ops op good (follows, placed, foreign, low) more known within held good' =
    low (above_if_held ops more op good good' known within held)
