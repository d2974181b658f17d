-- Numbers that are told by the step to them, as they are written and read.
use Rattle.std.proofs.Common.{◌≡◌, ℕ, ◌^◌, ◌<◌, List, ◌++◌, Some}
use Rattle.std.proofs.Common.{refl, sym, ap, subst, ◌∙◌, arith}
use Rattle.std.proofs.lemmas.Bool.Decides.{nat_tests}
use Rattle.byte_fields.proofs.Readers.{Took, Reads, step, bind_some, some_is}
use Rattle.packed.specs.Numbers.{sevens, step_number, step_spelling, stepped, step_at}
use Rattle.packed.proofs.Sevens.{sevens_reads}

leads_there : (from to : ℕ) → to < 2 ^ 32 → stepped from (step_number from to) ≡ Some to
leads_there from to lt = grind (arith, nat_tests)

led_by : (from n to : ℕ) → from < 2 ^ 32 → stepped from n ≡ Some to → (step_number from to ≡ n) × (to < 2 ^ 32)
led_by from n to bound e = grind (arith, nat_tests)

step_below : (from to : ℕ) → from < 2 ^ 32 → to < 2 ^ 32 → step_number from to < 2 ^ 49
step_below from to a b = grind (arith, nat_tests)

pub step_reads : (from : ℕ) → from < 2 ^ 32 → Reads (step_at from) (step_spelling from) (λ to. to < 2 ^ 32)
unfolding step_at step_spelling
step_reads from bound = record {
  takes = λ bytes to rest fits e.
      let s = step _ _ _ sevens_reads _ bytes (to, rest) fits e in
      let h = bind_some (stepped from s.x) _ (to, rest) s.goes_on in
      let l = led_by from s.x h.0 bound h.1 in
      subst (λ (p : ℕ × List ℕ). Took (step_spelling from) (λ to. to < 2 ^ 32) bytes p.0 p.1) (some_is _ _ h.2)
      (record {
        parts = s.took.parts ∙ ap (λ (n : ℕ). sevens n ++ s.rest) (sym l.0);
        rest_fits = s.took.rest_fits;
        in_range = l.1;
      });
  again = λ to rest lt.
      rw (sevens_reads.again (step_number from to) rest (step_below from to bound lt), leads_there from to lt) refl;
}
