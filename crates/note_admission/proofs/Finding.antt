-- The operation of a site that inserted a character.
use Rattle.std.proofs.Common.{◌≡◌, ℕ, suc, ◌+◌, ◌<◌, ◌≤◌, List, Contains, sym, subst, ◌∙◌, arith}
use Rattle.char_files.specs.CharName.{CharName}
use Rattle.operations.specs.Operation.{Operation, Inserts}
use Rattle.tree_order.specs.Good.{Good, file_before}
use Rattle.set_laws.specs.Sets.{AreIdentified}
use Rattle.set_laws.proofs.Covered.{IsInSpan, from_span}
use Rattle.set_laws.proofs.Lengths.{appended_by}

-- the operation in whose stretch of its site's file the name stands
pub inserts_there : (ops : List Operation) → Good ops → AreIdentified ops → (name : CharName) (site seq : ℕ)
    → site ≡ name.site → file_before ops name.site seq ≤ name.off → name.off < file_before ops name.site (seq + 1)
    → (op : Operation) → Contains ops op → op.site ≡ site → op.seq ≡ seq → Inserts op name
inserts_there ops good known name site seq is from to op held on at =
    let own : op.site ≡ name.site = on ∙ is in
    let next : seq + 1 ≡ suc op.seq = omega arith in
    let from' : file_before ops op.site op.seq ≤ name.off =
    subst (λ (s : ℕ). file_before ops s op.seq ≤ name.off) (sym own)
    (subst (λ (k : ℕ). file_before ops name.site k ≤ name.off) (sym at) from) in
    let to' : name.off < file_before ops op.site (suc op.seq) =
    subst (λ (s : ℕ). name.off < file_before ops s (suc op.seq)) (sym own)
    (subst (λ (k : ℕ). name.off < file_before ops name.site k) next to) in
    let len = appended_by ops known op held in
    let span : IsInSpan op.site (file_before ops op.site op.seq) op.kind name =
    record { on = sym own; from = from'; below = omega arith } in
    from_span op.site (file_before ops op.site op.seq) op.kind name (good.begins op held) span
