-- `of` keeps the pointer of a loose box.
use Rattle.std.proofs.Common.{◌∷◌, []}
use denote.Exit.{yes}
use denote.RattleType.{RattleType}
use denote.RawPtr.{Ptr, ptr_val}
use denote.Signature.{plain}
use denote.Triple.Walked.{Stays, stay_dropped, walk_of, Goes-dropped}
use Rattle.std.proofs.Common.{refl}
use Rattle.std.specs.Prelude.{Some}
use Rattle.std.specs.contracts.alloc.Global as heap
use Rattle.std.proofs.alloc.Global.TheLaws as heap_laws
use Rattle.std.specs.contracts.impls.GlobalAllocator.TheImpl.{ghosts}
use Rattle.std.proofs.raw_atomic.Walks.{proved_at, leaves}
use Rattle.vialshoal_c.proofs.Held.{of_runs}
use Rattle.vialshoal_c.proofs.Values.{word, Loose, note_shuts}
use Rattle.vialshoal_c.specs.contracts.note_session.NoteSession as session
use Rattle.vialshoal_c.specs.contracts.note_handle.NoteHandle as note_handle
use Rattle.vialshoal_c.specs.contracts.note_handle.NoteHandle.of.{ended, clauses}
use Rattle.vialshoal_c.specs.contracts.note_handle.NoteHandle.of.Key.{name as #self}
use Rattle.vialshoal_c.proofs.note_handle.NoteHandle.of.Statement.{statement}
use Rattle.vialshoal_c.proofs.note_handle.NoteHandle.of.Code as code

pub of_spec : {M : Type 1} → statement M
of_spec 𝓤 𝓛 𝓜 𝓡 wired =
    let c = clauses 𝓛 𝓜.mem 𝓡.returns in let Lr : RattleType = Loose session.the_row heap.the_row heap_laws.the_row_laws ghosts in
    let hs : Stays ended.signature.params ended.kept = (stay_dropped (plain (λ _. Lr)) yes, tt) in
    proved_at 𝓛 ended hs c 𝓜 𝓡 (Goes-dropped 𝓛 0 (plain (λ _. Lr)) yes (λ κs x f. refl), tt) #self code.function (code.unfolded 𝓤 𝓛.H 𝓜 𝓡 wired) (λ z are.
    let v = z.0.3.0 in let held : Ptr → note_handle.the_row.Denot = λ p. record { at = p; value = Some v.value } in
    of_runs 𝓤 𝓛 𝓜 𝓡 session.the_row note_handle.struct.name ((walk_of 𝓛 ended hs c).post z) ((c z.0.0 z.0.3).requires z.1) v z.0.4.0 (λ p. note_handle.the_row.own_val (held p) (word (ptr_val p) ∷ []))
    (λ p. note_shuts 𝓛 (held p)) (λ p. leaves 𝓛 ended hs c z (word (ptr_val p)) (held p) (tt, tt) (tt, tt)))
