use Rattle.std.proofs.Common.{◌≡◌, ◌-◌, ◌≤◌, length, drop, []}
use Rattle.line_text.specs.Text.{words_of}
use Rattle.fusion_rules.specs.Names.{all_names}
use Rattle.category_text.specs.Answers.{kept}
use Rattle.category_text.proofs.head.read_labels.Given as goal

abbrev pub invariant-loop-word : goal.invariant-loop-word
invariant-loop-word l = record {
  from : 1 ≤ l.place;
  within : l.place ≤ length (words_of l.line.text.now);
  kept : kept l.names (drop l.place (words_of l.line.text.now)) ≡ kept [] (drop 1 (words_of l.line.text.now));
  spelled : all_names (drop l.place (words_of l.line.text.now)) ≡ all_names (drop 1 (words_of l.line.text.now));
}

abbrev pub decreases-loop-word : goal.decreases-loop-word
decreases-loop-word l = length (words_of l.line.text.now) - l.place
