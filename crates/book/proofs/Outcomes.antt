-- What the functions of a book leave is the outcome of a call.
use Rattle.std.proofs.Common.{◌≡◌, ℕ, zero, suc, ◌+◌, ◌≤◌, Bool, true, false, cond, get_or, is_some}
use Rattle.std.proofs.Common.{not, List, [], ◌∷◌, ◌++◌, length, set, Some, None, Ok, Err, Option}
use Rattle.std.proofs.Common.{Result, is_err, OnErr, append-nil, refl, sym, ap, ◌∙◌, arith, leb}
use Rattle.std.proofs.lemmas.Bool.Decides.{nat_tests}
use Rattle.std.specs.Result.{IsErr, IsErrAnd}
use Rattle.gas.specs.declared.day.DayNumbers.{DayNumbers}
use Rattle.gas.specs.declared.day.DayRecord.{DayRecord}
use Rattle.ledger.specs.declared.faults.AccountFault.{AccountFault}
use Rattle.ledger.specs.declared.faults.AccountFault.TheVariants as fault
use Rattle.ledger.specs.declared.lines.Line.{Line}
use Rattle.ledger.specs.declared.lines.TheConstants.{MOST_LINES}
use Rattle.gas.specs.Inputs.{first_failure, answer_by, value_if}
use Rattle.gas.specs.Made.{day_of}
use Rattle.ledger.specs.Calls.{Call, State, Tests, by_account, correction, day_input, day_tests}
use Rattle.ledger.specs.Calls.{known_after, outcome, posting, tests, with_lines, lines_of_call}
use Rattle.ledger.specs.Days.{Places, place_of}
use Rattle.ledger.specs.Due.{lines_due_in}
use Rattle.gas.specs.Tariffs.{Tariff}
use Rattle.ledger.specs.Year.{Opening, Standing, is_opened}
use Rattle.book.specs.Books.{Contents, state_of, with_days}
use Rattle.book.specs.declared.terms.SettlementTerms.{SettlementTerms}
use Rattle.book.specs.Days.{exchanged_days}
use Rattle.book.specs.Terms.{standing_by}
use Rattle.book.specs.Years.{year_by}

-- a call of which a test fails is refused as that test says
pub refused :
    (s : Tariff) (c : Call) (a : State) (f : AccountFault) → first_failure (tests c a) ≡ Some f →
    Err f ≡ outcome s c a
unfolding outcome
refused s c a f e = rw e refl

-- one of which none fails writes its lines
pub passed :
    (s : Tariff) (c : Call) (a : State) → first_failure (tests c a) ≡ None →
    outcome s c a ≡ with_lines (known_after c a) (lines_of_call s c (known_after c a))
unfolding outcome
passed s c a e = rw e refl

-- of tests in two parts, the first part decides where one of it fails, else the second
first_of :
    (b : Bool) (xs ys : Option AccountFault) (f g : AccountFault) → (xs ≡ Some f → ys ≡ Some f) →
    cond b xs (Some g) ≡ Some f → cond b ys (Some g) ≡ Some f
first_of true xs ys f g more h = more h
first_of false xs ys f g more h = h

pub fails_first :
    (xs ys : Tests) (f : AccountFault) → first_failure xs ≡ Some f →
    first_failure (xs ++ ys) ≡ Some f
fails_first [] ys f e = absurd cc
fails_first (x ∷ xs) ys f e = first_of x.0 _ _ f x.1 (fails_first xs ys f) e

later_of :
    (b : Bool) (xs both ys : Option AccountFault) (g : AccountFault) → (xs ≡ None → both ≡ ys) →
    cond b xs (Some g) ≡ None → cond b both (Some g) ≡ ys
later_of true xs both ys g more h = more h
later_of false xs both ys g more h = absurd cc

pub fails_later :
    (xs ys : Tests) → first_failure xs ≡ None → first_failure (xs ++ ys) ≡ first_failure ys
fails_later [] ys e = refl
fails_later (x ∷ xs) ys e = later_of x.0 _ _ _ x.1 (fails_later xs ys) e

-- what `?` hands on
pub handed_on :
    (r : Result (Unit {0}) AccountFault) (x : State) {o : Result State AccountFault}
    {f : AccountFault} →
    IsErr r → IsErrAnd r (λ e. e ≡ f) → Err f ≡ o → answer_by (λ _. x) r ≡ o
handed_on (Ok u) x is one h = absurd cc
handed_on (Err e) x is one h = rw one h

-- the tests of a day in an opened account
module _ (a : State) (month day : ℕ) (n : DayNumbers) (stands : Bool × AccountFault)
    (opened : is_opened a.year.standing ≡ true)
  where
    day_refused :
        (f : AccountFault) → first_failure (day_input a.year.leap month day n) ≡ Some f →
        first_failure (day_tests a month day n stands) ≡ Some f
    day_refused f e = rw opened (fails_first (day_input a.year.leap month day n) (stands ∷ []) f e)

    day_passed :
        first_failure (day_input a.year.leap month day n) ≡ None →
        first_failure (day_tests a month day n stands) ≡ first_failure (stands ∷ [])
    day_passed e = rw opened (fails_later (day_input a.year.leap month day n) (stands ∷ []) e)

-- of a test on a number, the refusal says that it failed, and the number that it passed
pub untaken :
    {A F : Type 0} (ok : Bool) (f g : F) (a : A) → Err f ≡ value_if ok g a → (ok ≡ false) × (f ≡ g)
untaken true f g a e = absurd cc
untaken false f g a e = (refl, cc)

pub taken :
    {A F : Type 0} (ok : Bool) (g : F) (m a : A) → Ok m ≡ value_if ok g a → (ok ≡ true) × (m ≡ a)
taken true g m a e = (refl, cc)
taken false g m a e = absurd cc

-- lines for which there is room are written
pub fits :
    (a : State) (more : List Line) → length a.lines + length more ≤ MOST_LINES →
    with_lines a (Ok more) ≡ Ok (record a { lines = a.lines ++ more })
fits a more room = let test : leb (length a.lines + length more) MOST_LINES ≡ true = grind
    (arith, nat_tests) in rw test refl

-- a posting, in any account that was opened
module _ {was b : Contents} (same : was ≡ b) (month day : ℕ) (n : DayNumbers) (s : Tariff)
    (t : Standing) (opened : is_opened t ≡ true)
  where
    pub posting_refused :
        {f : AccountFault} → Some f ≡ first_failure (day_input was.year.leap month day n) →
        Err f ≡ outcome s (posting month day n) (state_of t b)
    posting_refused {f = f} e =
        rw (sym same) (refused s (posting month day n)
        (state_of t was) f
        (day_refused (state_of t was) month day n _ opened f
        (sym e)))

    module _ {place : ℕ} {stands : Option DayRecord}
        (e : None ≡ first_failure (day_input was.year.leap month day n))
        (at : place ≡ place_of month day)
        (is : stands ≡ get_or was.year.days place None)
      where
        tested : first_failure (tests (posting month day n)
            (state_of t was)) ≡ first_failure
            ((not (is_some stands), fault.PostedAlready) ∷ [])
        tested =
            day_passed (state_of t was) month day n _ opened (sym e)
            ∙ rw (is, at) refl

        pub posted_already :
            true ≡ is_some stands →
            Err fault.PostedAlready ≡ outcome s (posting month day n) (state_of t b)
        posted_already posted =
            rw (sym same) (refused s (posting month day n)
            (state_of t was) fault.PostedAlready
            (tested ∙ rw (sym posted) refl))

        pub posted :
            {d : DayRecord} {after : Contents} → false ≡ is_some stands → Ok d ≡ day_of n →
            length was.lines ≤ MOST_LINES → after ≡ with_days b (set b.year.days place (Some d)) →
            Ok (state_of t after) ≡ outcome s (posting month day n) (state_of t b)
        posted absent made room left =
            let a : State = state_of t was in
            let passes : first_failure (tests (posting month day n) a) ≡ None = tested ∙ rw
            (sym absent) refl in
            let all : length was.lines + 0 ≤ MOST_LINES = omega arith in
            rw (left, sym same) (sym (passed s (posting month day n) a passes ∙ fits
            (known_after (posting month day n) a) [] all ∙ rw
            (sym made, at, append-nil was.lines) refl))

-- an account that has terms was opened
pub opened_by : (o : Opening) (t : Option SettlementTerms) → is_opened (standing_by o t) ≡ true
opened_by o None = refl
opened_by o (Some t) = refl

-- a refusal does not say what was left
pub refused_alike :
    (r : Result (Unit {0}) AccountFault) (x y : State) → true ≡ is_err r →
    answer_by (λ _. x) r ≡ answer_by (λ _. y) r
refused_alike (Ok u) x y e = absurd cc
refused_alike (Err f) x y e = refl

pub if_refused :
    (r : Result (Unit {0}) AccountFault) {P Q : Type 0} → true ≡ is_err r → OnErr r P → (P → Q) →
    OnErr r Q
if_refused (Ok u) e p to = absurd cc
if_refused (Err f) e p to = to p

-- a record that is put back
put_back :
    (days : Places) (place : ℕ) (d before : DayRecord) → Some before ≡ get_or days place None →
    set (set days place (Some d)) place (Some before) ≡ days
put_back [] place d before e = refl
put_back (x ∷ xs) zero d before e = rw e refl
put_back (x ∷ xs) (suc n) d before e = ap (λ (ds : Places). x ∷ ds) (put_back xs n d before e)

-- a correction, in an account that was opened
module _ {was b : Contents} (same : was ≡ b) (month day : ℕ) (n : DayNumbers) (s : Tariff)
    (t : Standing) (opened : is_opened t ≡ true)
  where
    pub correction_refused :
        {f : AccountFault} → Some f ≡ first_failure (day_input was.year.leap month day n) →
        Err f ≡ outcome s (correction month day n) (state_of t b)
    correction_refused {f = f} e =
        rw (sym same) (refused s (correction month day n)
        (state_of t was) f
        (day_refused (state_of t was) month day n _ opened f
        (sym e)))

    module _ {place : ℕ} {stands : Option DayRecord}
        (e : None ≡ first_failure (day_input was.year.leap month day n))
        (at : place ≡ place_of month day)
        (is : stands ≡ get_or b.year.days place None)
      where
        corrected :
            first_failure (tests (correction month day n) (state_of t b)) ≡ first_failure
            ((is_some stands, fault.NotPosted) ∷ [])
        corrected =
            let first : first_failure (tests (correction month day n)
            (state_of t was)) ≡ first_failure
            ((is_some (get_or was.year.days (place_of month day) None), fault.NotPosted) ∷ []) =
            day_passed
            (state_of t was) month day n _ opened (sym e) in
            rw (is, at, sym same) first

        pub not_posted :
            None ≡ stands → Err fault.NotPosted ≡ outcome s (correction month day n) (state_of t b)
        not_posted absent =
            refused s (correction month day n) (state_of t b) fault.NotPosted
            (corrected ∙ rw (sym absent) refl)

        pub corrects :
            {d before : DayRecord} {put : Contents} → Some before ≡ stands → Ok d ≡ day_of n →
            put ≡ with_days b (exchanged_days b.year.days place d (Some before)) →
            with_lines (state_of t put)
            (by_account (lines_due_in s (year_by t put.year) put.lines)) ≡ outcome s
            (correction month day n) (state_of t b)
        corrects was made is_put =
            let passes : first_failure (tests (correction month day n) (state_of t b)) ≡ None =
            corrected ∙ rw (sym was) refl in
            rw is_put (sym (passed s (correction month day n) (state_of t b) passes ∙ rw
            (sym made, at) refl))

-- a book with a record put back is the one before
pub restored :
    (b put trued_up after : Contents) (place : ℕ) (d before : DayRecord) →
    Some before ≡ get_or b.year.days place None →
    put ≡ with_days b (set b.year.days place (Some d)) → trued_up ≡ put →
    after ≡ with_days trued_up (set trued_up.year.days place (Some before)) → after ≡ b
restored b put trued_up after place d before stood one two three =
    three
    ∙ rw (two, one) (ap (λ (days : Places). with_days b days)
    (put_back b.year.days place d before stood))
