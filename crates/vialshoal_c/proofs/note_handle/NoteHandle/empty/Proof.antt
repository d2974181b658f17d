-- `empty` makes a handle of no note, whose pointer is null.
use Rattle.std.proofs.Common.{◌∷◌, []}
use denote.RawPtr.{null_ptr, ptr_val}
use denote.Triple.Walked.{walk_of}
use Rattle.std.specs.Prelude.{None}
use Rattle.std.proofs.raw_atomic.Walks.{proved_at, leaves}
use Rattle.vialshoal_c.proofs.Held.{empty_runs}
use Rattle.vialshoal_c.proofs.Values.{word, note_shuts}
use Rattle.vialshoal_c.specs.contracts.note_session.NoteSession as session
use Rattle.vialshoal_c.specs.contracts.note_handle.NoteHandle as note_handle
use Rattle.vialshoal_c.specs.contracts.note_handle.NoteHandle.empty.{ended, clauses}
use Rattle.vialshoal_c.specs.contracts.note_handle.NoteHandle.empty.Key.{name as #self}
use Rattle.vialshoal_c.proofs.note_handle.NoteHandle.empty.Statement.{statement}
use Rattle.vialshoal_c.proofs.note_handle.NoteHandle.empty.Code as code

pub empty_spec : {M : Type 1} → statement M
empty_spec 𝓤 𝓛 𝓜 𝓡 wired =
    let c = clauses 𝓛 𝓜.mem 𝓡.returns in let d : note_handle.the_row.Denot = record { at = null_ptr; value = None } in let v = word (ptr_val null_ptr) in
    proved_at 𝓛 ended tt c 𝓜 𝓡 tt #self code.function (code.unfolded 𝓤 𝓛.H 𝓜 𝓡 wired) (λ z are.
    empty_runs 𝓤 𝓛 𝓜 𝓡 session.the_row note_handle.struct.name ((walk_of 𝓛 ended tt c).post z) ((c z.0.0 z.0.3).requires z.1) (note_handle.the_row.own_val d (v ∷ [])) (note_shuts 𝓛 d) (leaves 𝓛 ended tt c z v d tt tt))
