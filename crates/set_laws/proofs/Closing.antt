-- A set has one closure: its greatest good part, over which no other operation is ready.
use Rattle.std.proofs.Common.{◌≡◌, ℕ, zero, suc, ◌⊎◌, ◌↔◌, inl, inr, List, [], ◌∷◌, length}
use Rattle.std.proofs.Common.{Contains, refl, sym, subst, arith}
use Rattle.std.proofs.lemmas.Bool.{cases_lt}
use Rattle.std.proofs.lemmas.List.Elements.{Contains-append_left, Contains-push, Contains-push_cases}
use Rattle.operations.specs.Operation.{Operation}
use Rattle.tree_order.specs.Good.{Good}
use Rattle.set_laws.specs.Sets.{IsPartOf, AreIdentified}
use Rattle.set_laws.specs.Verdict.{Verdict, wait, misfit, low_stamp, ready, HasVerdict, IsNew}
use Rattle.set_laws.specs.Closure.{IsFreedBy, HoldsWhatItFrees, IsClosure, HasOneClosure}
use Rattle.set_laws.specs.Closure.{IsGreatestGoodPart, GrowsByWhatIsFreed, NoneIsReady, IsKept, AllWait}
use Rattle.set_laws.proofs.Covered.{covered_is_good}
use Rattle.set_laws.proofs.Freed.{ready_freed, freed_by_more, good_if_ready}
use Rattle.set_laws.proofs.GoodPasts.{good_part_within}
use Rattle.set_laws.proofs.Lengths.{part_identified}
use Rattle.set_laws.proofs.OneMore.{with_one}
use Rattle.set_laws.proofs.Picking.{Contains-none, search_list, take_out}
use Rattle.set_laws.proofs.Refusals.{refusals_last}
use Rattle.set_laws.proofs.Verdicts.{held_or_not, some_verdict, same_verdict}

nothing_within : (ops : List Operation) → IsPartOf [] ops
nothing_within ops op held = absurd (Contains-none op held)

pub lemma_nothing_is_good : Good []
lemma_nothing_is_good = record {
  identities = λ a b held. absurd (Contains-none a held);
  predecessors = λ op held. absurd (Contains-none op held);
  mentions = λ op name held. absurd (Contains-none op held);
  begins = λ op held. absurd (Contains-none op held);
  own = λ op name held. absurd (Contains-none op held);
  stamps = λ op p held. absurd (Contains-none op held);
}

pub nothing_is_identified : AreIdentified []
nothing_is_identified = record {
  counted = λ op held. absurd (Contains-none op held);
  unique = λ a b held. absurd (Contains-none a held);
}

-- an operation is new and ready, or not
abbrev IsNewAndReady : List Operation → Operation → Type 0
IsNewAndReady set op = IsNew set op × HasVerdict set op ready

ready_by_verdict : (set : List Operation) (op : Operation) → IsNew set op → (v : Verdict)
    → HasVerdict set op v → (IsNewAndReady set op → ⊥) ⊎ IsNewAndReady set op
ready_by_verdict set op new wait h = inl (λ is. let same = same_verdict set op wait ready h is.1 in cc)
ready_by_verdict set op new misfit h =
    inl (λ is. let same = same_verdict set op misfit ready h is.1 in cc)
ready_by_verdict set op new low_stamp h =
    inl (λ is. let same = same_verdict set op low_stamp ready h is.1 in cc)
ready_by_verdict set op new ready h = inr (new, h)

ready_or_not : (set : List Operation) (op : Operation) → (IsNewAndReady set op → ⊥) ⊎ IsNewAndReady set op
ready_or_not set op =
    elim (cases_lt 0 op.seq) [
      | inr none ↦ inl (λ is. let counted = is.0.counted in omega arith)
      | inl counted ↦ elim (held_or_not set op.site op.seq) [
        | inl there ↦ inl (λ is. is.0.unheld there)
        | inr unheld ↦
            let found = some_verdict set op in
            ready_by_verdict set op (record { counted = counted; unheld = unheld }) found.0 found.1
      ]
    ]

module _ (all : List Operation) (known : AreIdentified all) where
  -- where none is ready, what is freed is held
  holds_freed : (set : List Operation) → IsPartOf set all → Good set → NoneIsReady all set
      → HoldsWhatItFrees all set
  holds_freed set within good none op held freed =
      elim (held_or_not set op.site op.seq) [
        | inl there ↦ let (other, here, on, at) = there in
            subst (Contains set) (known.unique other op (within other here) held on at) here
        | inr unheld ↦
            let new : IsNew set op = record { counted = known.counted op held; unheld = unheld } in
            absurd (none op held new
            ((ready_freed set op good (part_identified set all within known) new).1 freed))
      ]

  pub closed_by_none : (set : List Operation) → IsPartOf set all → Good set → NoneIsReady all set
      → IsClosure all set
  closed_by_none set within good none = record {
    holds_these = nothing_within set;
    holds_freed = holds_freed set within good none;
    least = λ other these holds.
        good_part_within all set other (part_identified set all within known) good within holds;
  }

  none_by_closed : (set : List Operation) → IsPartOf set all → Good set → IsClosure all set
      → NoneIsReady all set
  none_by_closed set within good closed op held new is =
      let freed = (ready_freed set op good (part_identified set all within known) new).0 is in
      new.unheld (op, closed.holds_freed op held freed, refl, refl)

  pub closed_where_none : (set : List Operation) → IsPartOf set all → Good set
      → IsClosure all set ↔ NoneIsReady all set
  closed_where_none set within good = (none_by_closed set within good, closed_by_none set within good)

  -- a good part over which none is ready
  record IsFull (set : List Operation) : Type 0 where
    within : IsPartOf set all
    good : Good set
    none : NoneIsReady all set

  -- all is in the set, or among the rest
  record IsDivided (set rest : List Operation) : Type 0 where
    within : IsPartOf set all
    rest_within : IsPartOf rest all
    each : (op : Operation) → Contains all op → Contains set op ⊎ Contains rest op

  -- if none of the rest is ready, the set is full
  full_by_none : (set rest : List Operation) → Good set → IsDivided set rest
      → ((op : Operation) → Contains rest op → IsNewAndReady set op → ⊥) → IsFull set
  full_by_none set rest good divided none = record {
    within = divided.within;
    good = good;
    none = λ op held new is. elim (divided.each op held) [
      | inl there ↦ new.unheld (op, there, refl, refl)
      | inr left ↦ none op left (new, is)
    ];
  }

  -- if one is, it goes over
  divided_on : (set rest fewer : List Operation) (op : Operation) → IsDivided set rest → Contains all op
      → ((x : Operation) → Contains rest x → (op ≡ x) ⊎ Contains fewer x) → IsPartOf fewer rest
      → IsDivided (with_one set op) fewer
  divided_on set rest fewer op divided held has only = record {
    within = λ x there. elim (Contains-push_cases set op x there) [
      | inl old ↦ divided.within x old
      | inr same ↦ subst (Contains all) same held
    ];
    rest_within = λ x there. divided.rest_within x (only x there);
    each = λ x there. elim (divided.each x there) [
      | inl old ↦ inl (Contains-append_left set (op ∷ []) x old)
      | inr left ↦ elim (has x left) [
        | inl same ↦ inl (subst (Contains (with_one set op)) same (Contains-push set op))
        | inr there' ↦ inr there'
      ]
    ];
  }

  filled : (n : ℕ) (set rest : List Operation) → length rest ≡ n → Good set → IsDivided set rest
      → (full : List Operation) × IsFull full
  filled zero set rest len good divided =
      (set, full_by_none set rest good divided (λ op held is. let lt = held.1 in omega arith))
  filled (suc n) set rest len good divided =
      elim (search_list (λ x. IsNewAndReady set x → ⊥) (IsNewAndReady set) (ready_or_not set) rest) [
        | inl none ↦ (set, full_by_none set rest good divided none)
        | inr found ↦
            let (op, held, is) = found in
            let (fewer, less, has, only) = take_out rest op held in
            let known_set = part_identified set all divided.within known in
            filled n (with_one set op) fewer (omega arith) (good_if_ready set op good known_set is.0 is.1)
            (divided_on set rest fewer op divided (divided.rest_within op held) has only)
      ]

  full : (set : List Operation) × IsFull set
  full = filled (length all) [] all refl lemma_nothing_is_good (record {
    within = nothing_within all;
    rest_within = λ op held. held;
    each = λ op held. inr held;
  })

  -- two closures are one set
  closed_within : (set other : List Operation) → IsClosure all set → IsClosure all other → IsPartOf set other
  closed_within set other is is' = is.least other (nothing_within other) is'.holds_freed

  pub one_closure : HasOneClosure all
  one_closure =
      let (set, is) = full in
      let closed = closed_by_none set is.within is.good is.none in
      record {
        closure = set;
        is = closed;
        only = λ other is' op. (closed_within other set is' closed op, closed_within set other closed is' op);
      }

  pub greatest_good_part : (set : List Operation) → IsClosure all set → IsGreatestGoodPart all set
  greatest_good_part set is =
      let (other, full_is) = full in
      let closed = closed_by_none other full_is.within full_is.good full_is.none in
      let to : IsPartOf set other = closed_within set other is closed in
      let back : IsPartOf other set = closed_within other set closed is in
      let within : IsPartOf set all = λ op held. full_is.within op (to op held) in
      record {
        within = within;
        good = covered_is_good set (part_identified set all within known) (λ op held.
            (other, full_is.good, back, to op held));
        greatest = λ part part_within good.
            good_part_within all part set (part_identified part all part_within known) good part_within
            is.holds_freed;
      }

  -- where all else waits or is refused, what is taken in is the closure
  pub kept_closed : (taken waiting : List Operation) → Good taken → IsKept taken waiting all
      → AllWait taken waiting → IsClosure all taken
  kept_closed taken waiting good kept waits =
      closed_by_none taken kept.taken_in good (λ op held new is. none op new is (kept.others op held))
    where
      none : (op : Operation) → IsNew taken op → HasVerdict taken op ready
          → (Contains taken op ⊎ Contains waiting op)
          ⊎ (HasVerdict taken op misfit ⊎ HasVerdict taken op low_stamp) → ⊥
      none op new is (inl (inl there)) = new.unheld (op, there, refl, refl)
      none op new is (inl (inr left)) = let same = same_verdict taken op wait ready (waits op left) is in cc
      none op new is (inr (inl h)) = let same = same_verdict taken op misfit ready h is in cc
      none op new is (inr (inr h)) = let same = same_verdict taken op low_stamp ready h is in cc

-- as what is taken in grows, what was kept or refused stays so
pub kept_on : (taken more waiting all : List Operation) → AreIdentified all → Good taken → Good more
    → IsPartOf taken more → IsPartOf more all → IsKept taken waiting all → IsKept more waiting all
kept_on taken more waiting all known good good' grows within kept = record {
  taken_in = within;
  kept_waiting = kept.kept_waiting;
  others = λ op held. elim (held_or_not more op.site op.seq) [
    | inl there ↦ let (other, here, on, at) = there in
        inl (inl (subst (Contains more) (known.unique other op (within other here) held on at) here))
    | inr unheld ↦
        let known_more = part_identified more all within known in
        let last = refusals_last taken more op good good' known_more grows
        (record { counted = known.counted op held; unheld = unheld }) in
        elim (kept.others op held) [
          | inl (inl there) ↦ inl (inl (grows op there))
          | inl (inr left) ↦ inl (inr left)
          | inr (inl h) ↦ inr (inl (last misfit (inl refl) h))
          | inr (inr h) ↦ inr (inr (last low_stamp (inr refl) h))
        ]
  ];
}

-- with one operation more in the set the closure grows by it and what it frees, or stays
pub grows_by_freed : (all set grown : List Operation) (op : Operation) → IsClosure all set
    → IsClosure (with_one all op) grown → GrowsByWhatIsFreed all set op grown
grows_by_freed all set grown op is is' =
    let old : IsPartOf all (with_one all op) = Contains-append_left all (op ∷ []) in
    let grown_holds : HoldsWhatItFrees all grown = λ x held freed. is'.holds_freed x (old x held) freed in
    let set_within : IsPartOf set grown = is.least grown (nothing_within grown) grown_holds in
    record {
      freed = λ freed. record {
        holds_these = λ x held. elim (Contains-push_cases set op x held) [
          | inl there ↦ set_within x there
          | inr same ↦ subst (Contains grown) same
              (is'.holds_freed op (Contains-push all op) (freed_by_more set grown set_within op freed))
        ];
        holds_freed = grown_holds;
        least = λ other these holds. is'.least other (nothing_within other) (λ x held freed'.
            elim (Contains-push_cases all op x held) [
              | inl there ↦ holds x there freed'
              | inr same ↦ subst (Contains other) same (these op (Contains-push set op))
            ]);
      };
      not_freed = λ none x. (
        is'.least set (nothing_within set) (λ y held freed'. elim (Contains-push_cases all op y held) [
          | inl there ↦ is.holds_freed y there freed'
          | inr same ↦ absurd (none (subst (IsFreedBy set) (sym same) freed'))
        ]) x,
        set_within x,
      );
    }
