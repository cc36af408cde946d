use Rattle.std.proofs.Common.{◌≡◌, refl}
use Rattle.input_lists.proofs.lists.gathered.Goals as goal

pub gather-requires : goal.gather-requires
gather-requires c = record {
  solved = c.requires.edges.solved;
  effects = c.requires.effects;
  small = c.requires.edges.small;
  few = c.requires.few;
  placed = c.requires.edges.placed;
}

pub numbered_inputs-requires : goal.numbered_inputs-requires
numbered_inputs-requires c = record {
  numbered = c.requires;
  system = refl;
  heap_scene = record {
    solved = c.requires.edges.solved;
    effects = c.requires.effects;
    small = c.requires.edges.small;
    few = c.requires.few;
    placed = c.requires.edges.placed;
  };
  heap = c.in_ok-heap.ensures;
  by_target = c.in_ok-links.ensures.by_target;
  by_caller = c.in_ok-links.ensures.by_caller;
}
