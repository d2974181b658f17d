-- `next` reads one end of an edge that the list lends. Assumes `Logic`.
use mathlib.Core.Path.{refl}
use mathlib.Core.List.{◌∷◌}
use mir.MapTy.{inst_fn}
use Rattle.piece_raw.specs.Linked.{HasNext}
use Rattle.piece_raw.proofs.Apart.{same_next}
use Rattle.piece_raw.proofs.Memory.{Of, args, next_seen}
use Rattle.piece_raw.proofs.Walks.{reads}
use Rattle.piece_raw.specs.contracts.links.Links.next.Key.{name as #self}
use Rattle.piece_raw.proofs.links.Links.next.Statement as stated
use Rattle.piece_raw.proofs.links.Links.next.Code as code

pub next_spec : {M : Type 1} → stated.statement M
next_spec 𝓤 𝓛 𝓜 𝓡 wired X LX y =
    let E : Of = record { row = X; laws = LX } in
    reads E HasNext 𝓛 𝓜 𝓡 1 8 refl (next_seen 𝓛) (λ ps t. same_next (t ∷ ps) t) (#self (args E))
    (inst_fn (args E) code.function) (code.unfolded 𝓤 𝓛.H 𝓜 𝓡 wired (X, tt))
    ((y.0.0, y.0.1, tt, y.0.3, y.0.4), y.1)
