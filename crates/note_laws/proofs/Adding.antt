-- Entries that take no place from others.
use Rattle.std.proofs.Common.{ℕ, inl, inr, List}
use Rattle.note_laws.specs.Note.{Note, Entries, Saying, IsHolder}
use Rattle.note_laws.specs.Chains.{HoldsItsPlace}
use Rattle.note_laws.specs.Admission.{CountInTurn}
use Rattle.note_laws.specs.Laws.{AreSameEntries, AddsNoLesser, AreToldApart, KeepTheirPlaces}
use Rattle.note_laws.proofs.Lists.{held_at, index_of}

-- who holds a number holds it
holder_stays : (note : Note) (entries more : Entries) → AddsNoLesser entries more → (site author : ℕ)
    → IsHolder note entries site author → IsHolder note more site author
holder_stays note entries more adds site author h = record {
  free = h.free;
  founder = h.founder;
  claimed = λ other. let (claim, least, on, by) = h.claimed other in (
    claim,
    record {
      made = adds.claims claim least.made;
      least = λ new held same. adds.ranks claim new least held same;
    },
    on,
    by,
  );
}

place_stays : (note : Note) (entries more : Entries) → AddsNoLesser entries more → (s : Saying)
    → HoldsItsPlace note entries s → HoldsItsPlace note more s
place_stays note entries more adds s (inl held) = inl held
place_stays note entries more adds s (inr (holder, least)) = inr (
  holder_stays note entries more adds s.op.site s.author holder,
  record {
    made = adds.said s least.made;
    least = λ new held branch. adds.hashes s new least held branch;
  },
)

pub places_stay : (note : Note) (entries more : Entries) (text : ℕ) (there : List Saying) → AddsNoLesser entries more
    → CountInTurn note entries text there → KeepTheirPlaces note more there
places_stay note entries more text there adds in_turn s held =
    let (n, at) = index_of there s held in
    place_stays note entries more adds s (in_turn n s at).0.holds

-- what counts in turn does so with other entries in which it keeps its places
pub still_in_turn : (note : Note) (entries more : Entries) (text : ℕ) (there : List Saying)
    → CountInTurn note entries text there → KeepTheirPlaces note more there → CountInTurn note more text there
still_in_turn note entries more text there in_turn keep n s at =
    let (next, fate) = in_turn n s at in (
      record {
        of_text = next.of_text;
        new = next.new;
        follows = next.follows;
        holds = keep s (held_at there n s at);
        names = next.names;
      },
      fate,
    )

-- the same entries add nothing
pub same_adds : (a b : Entries) → AreSameEntries a b → AddsNoLesser a b
same_adds a b same = record {
  claims = λ claim. (same.claims claim).0;
  said = λ s. (same.said s).0;
  ranks = λ old new least held. least.least new ((same.claims new).1 held);
  hashes = λ old new least held. least.least new ((same.said new).1 held);
}

pub same_back : (a b : Entries) → AreSameEntries a b → AreSameEntries b a
same_back a b same = record {
  claims = λ claim. ((same.claims claim).1, (same.claims claim).0);
  said = λ s. ((same.said s).1, (same.said s).0);
}

pub same_told : (a b : Entries) → AreSameEntries a b → AreToldApart a → AreToldApart b
same_told a b same told = record {
  hashes = λ x y held other. told.hashes x y ((same.said x).1 held) ((same.said y).1 other);
  ranks = λ c d held other. told.ranks c d ((same.claims c).1 held) ((same.claims d).1 other);
}
