-- `into_loose` tests the pointer, and has the box again where there is one.
use Rattle.std.proofs.Common.{refl}
use denote.Exit.{yes}
use denote.Param.{layout}
use denote.Signature.{plain}
use denote.Triple.Walked.{Stays, stay_dropped, walk_of, Goes-dropped}
use Rattle.std.specs.contracts.alloc.Global as heap
use Rattle.std.proofs.alloc.Global.TheLaws as heap_laws
use Rattle.core.proofs.cell.Inside.{one}
use Rattle.std.proofs.raw_atomic.Walks.{proved_at, leaves}
use Rattle.vialshoal_c.proofs.Held.{into_loose_runs}
use Rattle.vialshoal_c.proofs.Values.{note_opens}
use Rattle.vialshoal_c.specs.contracts.note_session.NoteSession as session
use Rattle.vialshoal_c.specs.contracts.note_handle.NoteHandle as note_handle
use Rattle.vialshoal_c.specs.contracts.note_handle.NoteHandle.into_loose.{ended, clauses}
use Rattle.vialshoal_c.specs.contracts.note_handle.NoteHandle.into_loose.Key.{name as #self}
use Rattle.vialshoal_c.proofs.note_handle.NoteHandle.into_loose.Statement.{statement}
use Rattle.vialshoal_c.proofs.note_handle.NoteHandle.into_loose.Code as code

pub into_loose_spec : {M : Type 1} → statement M
into_loose_spec 𝓤 𝓛 𝓜 𝓡 wired =
    let c = clauses 𝓛 𝓜.mem 𝓡.returns in
    let hs : Stays ended.signature.params ended.kept = (stay_dropped (plain (λ _. note_handle.the_row)) yes, (stay_dropped (plain (λ _. heap.the_row)) yes, tt)) in
    proved_at 𝓛 ended hs c 𝓜 𝓡 (Goes-dropped 𝓛 0 (plain (λ _. note_handle.the_row)) yes (λ κs x f. refl), (Goes-dropped 𝓛 0 (plain (λ _. heap.the_row)) yes (λ κs x f. refl), tt)) #self code.function (code.unfolded 𝓤 𝓛.H 𝓜 𝓡 wired) (λ z are.
    let d = z.0.3.0 in let a = z.0.3.1.0 in let h = one (layout heap.the_row) z.0.4.1.0 ((heap_laws.the_row_laws.lawful 𝓛).typed a z.0.4.1.0 are.1.0) in
    into_loose_runs 𝓤 𝓛 𝓜 𝓡 session.the_row note_handle.struct.name ((walk_of 𝓛 ended hs c).post z) ((c z.0.0 z.0.3).requires z.1) d.at d.value a z.0.4.0 z.0.4.1.0 (note_handle.the_row.own_val d z.0.4.0) h.0 h.1 h.2
    (note_opens 𝓛 d z.0.4.0) (λ w r. leaves 𝓛 ended hs c z w r (tt, (tt, tt)) (tt, (tt, tt))))
