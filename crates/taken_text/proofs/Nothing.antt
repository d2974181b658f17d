-- Where nothing was taken in there are no characters.
use Rattle.std.proofs.Common.{[], Contains, refl, sym, subst, arith}
use Rattle.std.proofs.lemmas.List.{take_all}
use Rattle.std.proofs.lemmas.List.Elements.{All-nil}
use Rattle.tree_order.specs.Good.{Good}
use Rattle.tree_order.proofs.OneWriter.{one_writer}
use Rattle.set_laws.proofs.Closing.{lemma_nothing_is_good, nothing_is_identified}
use Rattle.taken_text.specs.Taken.{IsTaken}

pub nothing_is_taken : IsTaken [] [] []
nothing_is_taken = record {
  good = lemma_nothing_is_good;
  in_order = λ n. subst Good (sym (take_all n [] (omega arith))) lemma_nothing_is_good;
  identified = nothing_is_identified;
  atoms = record { order = one_writer [] 0 0 lemma_nothing_is_good (λ k op e. absurd cc) (omega arith); registers = All-nil _ };
  bytes = record {
    lengths = λ site. refl;
    bytes = λ c byte (i, is, e). let held : Contains [] i = is.held in absurd (omega (arith, held.1));
  };
}
