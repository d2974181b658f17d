use Rattle.std.proofs.Common.{◌≡◌, List, ℕ, ◌++◌, length, ap, ◌∙◌, arith}
use Rattle.packed.specs.Told.{Told}
use Rattle.chunks.specs.Chunks.{head}
use Rattle.chunks.proofs.Divided.{head_sized}
use Rattle.chunks.proofs.writing.ChunkWriter.new.Goals as goal

pub invariant_of-result : goal.invariant_of-result
invariant_of-result c =
    let text = c.args.text in
    let bytes : c.put_head.new.out.items ≡ head text =
    c.in_ok-put_head.ensures ∙ ap (λ (l : List ℕ). l ++ head text) c.new-bytes.ensures.items in
    (ap (λ (t : Told). t.in_chunk) c.of_chunk.ensures, omega (arith, ap length bytes, head_sized text))
