-- Reasons are equal where their variants and codes are.
use Rattle.std.proofs.Common.{rules, ◌≡◌, ◌↔◌, ℕ, Bool, false, List, [], ◌∷◌, ap, sym, subst, inl, inr}
use Rattle.std.specs.Prelude.{IsTrue, ◌==◌, ◌&&◌}
use mathlib.Core.Logic.{◌⊎◌}
use denote.Struct.Field.{Field}
use denote.Enum.Declared.{Choice, left_or, right_or, values_one}
use denote.Enum.Compared.{Each, by}
use Rattle.minidump_reason.specs.contracts.reason.CrashReason.{enum}
use Rattle.minidump_reason.specs.contracts.reason.CrashReasonPartialEq.TheImpl as reason
use Rattle.minidump_reason.specs.declared.reason.CrashReason.{CrashReason}

-- ---- any type of variants

-- a test holds of the same value alone
abbrev IsTest : {A : Type 0} → (A → A → Bool) → Type 0
IsTest {A} eq = (x y : A) → IsTrue (eq x y) ↔ (x ≡ y)

abbrev AreTests : (Fss : List (List Field)) → Each Bool Fss → Type 0
AreTests [] each = Unit {0}
AreTests (Fs ∷ Fss) each = IsTest each.0 × AreTests Fss each.1

abbrev IsFirst : {A B : Type 0} → A ⊎ B → Type 0
IsFirst (inl x) = Unit {0}
IsFirst (inr y) = ⊥

choices_test : (Fss : List (List Field)) (each : Each Bool Fss) → AreTests Fss each → (c d : Choice Fss) → IsTrue (by false false Fss each c d) ↔ (c ≡ d)
choices_test [] each all c d = absurd c
choices_test (Fs ∷ Fss) each all (inl x) (inl y) = ((λ h. ap inl ((all.0 x y).0 h)), (λ h. (all.0 x y).1 (ap (left_or x) h)))
choices_test (Fs ∷ Fss) each all (inl x) (inr y) = ((λ h. Prim.search rules), (λ h. absurd (subst IsFirst h tt)))
choices_test (Fs ∷ Fss) each all (inr x) (inl y) = ((λ h. Prim.search rules), (λ h. absurd (subst IsFirst (sym h) tt)))
choices_test (Fs ∷ Fss) each all (inr x) (inr y) =
    let later = choices_test Fss each.1 all.1 x y in ((λ h. ap inr (later.0 h)), (λ h. later.1 (ap (right_or x) h)))

-- ---- variants of one, two and three codes

abbrev one : (x y : ℕ × Unit {0}) → Bool
one x y = x.0 == y.0

abbrev two : (x y : ℕ × (ℕ × Unit {0})) → Bool
two x y = x.0 == y.0 && x.1.0 == y.1.0

abbrev three : (x y : ℕ × (ℕ × (ℕ × Unit {0}))) → Bool
three x y = x.0 == y.0 && (x.1.0 == y.1.0 && x.1.1.0 == y.1.1.0)

one_test : IsTest one
one_test x y = ((λ h. Prim.search rules), (λ h. Prim.search rules))

two_test : IsTest two
two_test x y = ((λ h. Prim.search rules), (λ h. Prim.search rules))

three_test : IsTest three
three_test x y = ((λ h. Prim.search rules), (λ h. Prim.search rules))

-- ---- reasons

abbrev tests : Each Bool enum.parts
tests = (
  two,
  (
    one,
    (
      one,
      (
        one,
        (
          one,
          (
            one,
            (
              one,
              (
                one,
                (
                  one,
                  (
                    one,
                    (
                      one,
                      (
                        one,
                        (
                          one,
                          (
                            one,
                            (
                              one,
                              (
                                three,
                                (
                                  three,
                                  (two, (one, (one, (one, (one, (one, (one, (one, (one, (two, (one, (one, (two, (one, (one, (two, tt)))))))))))))))),
                                ),
                              ),
                            ),
                          ),
                        ),
                      ),
                    ),
                  ),
                ),
              ),
            ),
          ),
        ),
      ),
    ),
  ),
)

are_tests : AreTests enum.parts tests
are_tests = (
  two_test,
  (
    one_test,
    (
      one_test,
      (
        one_test,
        (
          one_test,
          (
            one_test,
            (
              one_test,
              (
                one_test,
                (
                  one_test,
                  (
                    one_test,
                    (
                      one_test,
                      (
                        one_test,
                        (
                          one_test,
                          (
                            one_test,
                            (
                              one_test,
                              (
                                three_test,
                                (
                                  three_test,
                                  (
                                    two_test,
                                    (
                                      one_test,
                                      (
                                        one_test,
                                        (
                                          one_test,
                                          (
                                            one_test,
                                            (
                                              one_test,
                                              (
                                                one_test,
                                                (
                                                  one_test,
                                                  (
                                                    one_test,
                                                    (
                                                      two_test,
                                                      (one_test, (one_test, (two_test, (one_test, (one_test, (two_test, tt)))))),
                                                    ),
                                                  ),
                                                ),
                                              ),
                                            ),
                                          ),
                                        ),
                                      ),
                                    ),
                                  ),
                                ),
                              ),
                            ),
                          ),
                        ),
                      ),
                    ),
                  ),
                ),
              ),
            ),
          ),
        ),
      ),
    ),
  ),
)

abbrev reason_eq : CrashReason → CrashReason → Bool
reason_eq = (reason.eq-value).it

pub reason_test : (x y : CrashReason) → IsTrue (reason_eq x y) ↔ (x ≡ y)
reason_test x y =
    let same = choices_test enum.parts tests are_tests (enum.as_values x) (enum.as_values y) in
    ((λ h. values_one enum x y (same.0 h)), (λ h. same.1 (ap enum.as_values h)))
