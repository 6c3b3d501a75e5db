use Rattle.std.proofs.Common.{◌≡◌, ◌≤◌, ◌<◌, ◌+◌, length, take, drop}
use Rattle.word_moves.specs.Pages.{flat, page_at}
use Rattle.word_moves.proofs.spot.gather.Given as goal

abbrev pub invariant-loop-pages : goal.invariant-loop-pages
invariant-loop-pages l = record {
  same : flat l.pages.items ≡ flat l.fn.pages.items;
  before : take l.page l.pages.items ≡ take l.page l.fn.pages.items;
  there : l.page < length l.pages.items;
  grown : length (page_at l.page l.fn.pages.items) ≤ length (page_at l.page l.pages.items);
}

abbrev pub decreases-loop-pages : goal.decreases-loop-pages
decreases-loop-pages l = length l.pages.items + length (flat (drop (l.page + 1) l.pages.items))
