-- The conditions on the triples, tried on small rules.
use Rattle.std.specs.Prelude.{◌≡◌, true, false, replicate, Some, slice_set, refl}
use Rattle.fusion_rules.specs.Fusion.{Fusion, fuses, with_triple, rule_refused}
use Rattle.fusion_rules.specs.Check.{RulesPass, rules_fault, dual_of, ways_left, ways_right}
use Rattle.fusion_rules.specs.declared.rules.RulesFault.TheVariants.{NotCommutative, NotAssociative, NoSingleDual}
use Rattle.fusion_rules.specs.declared.rules.RuleRefused.TheVariants.{Unit as IsUnit, Repeated}
use Rattle.fusion_rules.proofs.PassLemmas.{no_fault_passes}

-- the unit triples of one, two and three labels
abbrev pub one_label : Fusion
one_label = record { count = 1; table = slice_set (replicate 480 false) 0 true }

abbrev pub two_labels : Fusion
two_labels = with_triple (with_triple (record { count = 2; table = one_label.table }) 0 1 1) 1 0 1

abbrev pub three_labels : Fusion
three_labels = with_triple (with_triple (record { count = 3; table = two_labels.table }) 0 2 2) 2 0 2

-- Fibonacci: the second label times itself is both labels
abbrev pub fib : Fusion
fib = with_triple (with_triple two_labels 1 1 0) 1 1 1

-- Ising: s times s is 1 and p, s times p is s, p times p is 1
abbrev pub ising : Fusion
ising = with_triple (with_triple (with_triple (with_triple (with_triple three_labels 1 1 0) 1 1 2) 1 2 1) 2 1 1) 2 2 0

pub one_label_passes : RulesPass 1 (fuses one_label)
one_label_passes = no_fault_passes 1 (fuses one_label) refl

pub fib_passes : RulesPass 2 (fuses fib)
fib_passes = no_fault_passes 2 (fuses fib) refl

pub ising_passes : RulesPass 3 (fuses ising)
ising_passes = no_fault_passes 3 (fuses ising) refl

pub fib_dual : dual_of 2 (fuses fib) 1 ≡ 1
fib_dual = refl

-- two ways from t t t to t
pub fib_ways : ways_left 2 (fuses fib) 1 1 1 1 ≡ 2
fib_ways = refl

pub fib_ways_right : ways_right 2 (fuses fib) 1 1 1 1 ≡ 2
fib_ways_right = refl

-- the unit triples alone leave the other labels without a dual
pub no_dual : rules_fault 2 (fuses two_labels) ≡ Some (NoSingleDual 1)
no_dual = refl

-- a triple whose mirror isn't there comes first, though the label 2 has two duals and ways differ too
pub no_mirror : rules_fault 3 (fuses (with_triple (with_triple three_labels 1 2 0) 2 2 0)) ≡ Some (NotCommutative 1 2 0)
no_mirror = refl

-- t times t is t alone: no way from t t t to 1, and the ways agree, so the dual is missing
pub no_unit : rules_fault 2 (fuses (with_triple two_labels 1 1 1)) ≡ Some (NoSingleDual 1)
no_unit = refl

-- s s is 1, s p is p, p p is 1: from s p p to 1 there is a way on the left alone
pub unlike_ways : rules_fault 3 (fuses (with_triple (with_triple (with_triple (with_triple three_labels 1 1 0) 1 2 2) 2 1 2) 2 2 0)) ≡ Some (NotAssociative 1 2 2 0)
unlike_ways = refl

-- ways in equal numbers through unlike labels are no fault
pub equal_numbers : ways_left 3 (fuses ising) 1 1 2 0 ≡ ways_right 3 (fuses ising) 1 1 2 0
equal_numbers = refl

pub unit_refused : rule_refused fib 1 0 0 ≡ Some IsUnit
unit_refused = refl

pub twice_refused : rule_refused fib 1 1 1 ≡ Some Repeated
twice_refused = refl
