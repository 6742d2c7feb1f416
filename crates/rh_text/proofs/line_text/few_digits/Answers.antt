use Rattle.std.proofs.Common.{◌≡◌, ℕ, ◌+◌, ◌<◌, ◌≤◌, ◌/◌, ◌%◌, [], ◌∷◌, length, ap, ◌∙◌, arith}
use Rattle.std.specs.Prelude.{decimal}
use Rattle.std.proofs.lemmas.List.{length-append}
use Rattle.std.proofs.lemmas.Fmt.{decimal_digit, decimal_step}
use Rattle.rh_text.proofs.line_text.few_digits.Goals as goal

-- one digit more
one_more : (n k : ℕ) → 10 ≤ n → n < 1000 → length (decimal (n / 10)) ≡ k → length (decimal n) ≡ k + 1
one_more n k many few is =
    ap length (decimal_step n many (omega (arith, few))) ∙ length-append (decimal (n / 10)) ((48 + n % 10) ∷ []) ∙ ap (λ (l : ℕ). l + 1) is

one : (n : ℕ) → n < 10 → length (decimal n) ≡ 1
one n few = ap length (decimal_digit n few)

two : (n : ℕ) → 10 ≤ n → n < 100 → length (decimal n) ≡ 2
two n many few = one_more n 1 many (omega (arith, few)) (one (n / 10) (omega (arith, few)))

pub returns-then-number-lt10-clause-exact : goal.returns-then-number-lt10-clause-exact
returns-then-number-lt10-clause-exact c = λ some. one c.args.number (omega (arith, c.if-number-lt10.true))

pub returns-then-number-lt100-clause-exact : goal.returns-then-number-lt100-clause-exact
returns-then-number-lt100-clause-exact c = λ some. two c.args.number (omega (arith, c.if-number-lt10.false)) (omega (arith, c.if-number-lt100.true))

pub returns-then-number-lt1000-clause-exact : goal.returns-then-number-lt1000-clause-exact
returns-then-number-lt1000-clause-exact c = λ some.
    let n = c.args.number in
    one_more n 2 (omega (arith, c.if-number-lt100.false)) (omega (arith, c.if-number-lt1000.true)) (two (n / 10) (omega (arith, c.if-number-lt100.false)) (omega (arith, c.if-number-lt1000.true)))
