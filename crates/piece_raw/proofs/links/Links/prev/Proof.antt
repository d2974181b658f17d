-- `prev` reads one end of an edge that the list lends. Assumes `Logic`.
use mathlib.Core.Path.{refl}
use mir.MapTy.{inst_fn}
use Rattle.piece_raw.specs.Linked.{HasPrev}
use Rattle.piece_raw.proofs.Apart.{same_prev}
use Rattle.piece_raw.proofs.Memory.{Of, args, prev_seen}
use Rattle.piece_raw.proofs.Walks.{reads}
use Rattle.piece_raw.specs.contracts.links.Links.prev.Key.{name as #self}
use Rattle.piece_raw.proofs.links.Links.prev.Statement as stated
use Rattle.piece_raw.proofs.links.Links.prev.Code as code

pub prev_spec : {M : Type 1} → stated.statement M
prev_spec 𝓤 𝓛 𝓜 𝓡 wired X LX y =
    let E : Of = record { row = X; laws = LX } in
    reads E HasPrev 𝓛 𝓜 𝓡 0 0 refl (prev_seen 𝓛) same_prev (#self (args E))
    (inst_fn (args E) code.function) (code.unfolded 𝓤 𝓛.H 𝓜 𝓡 wired (X, tt))
    ((y.0.0, y.0.1, tt, y.0.3, y.0.4), y.1)
