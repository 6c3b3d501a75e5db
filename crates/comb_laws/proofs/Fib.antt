-- Trees of the Fibonacci category, for worked rows.
use Rattle.tree_shapes.specs.Labelled.{Labelled, Strand, Joined}

abbrev pub t : Labelled
t = Strand 1

-- (((t t):1 t):t t):1
abbrev pub lx : Labelled
lx = Joined (Joined (Joined t t 0) t 1) t 0

-- ((t t):1 t):t
abbrev pub short : Labelled
short = Joined (Joined t t 0) t 1

-- ((t t):1 (t t):1):1
abbrev pub x : Labelled
x = Joined (Joined t t 0) (Joined t t 0) 0

-- ((t 1):t t):1, whose strands aren't equal
abbrev pub mixed : Labelled
mixed = Joined (Joined t (Strand 0) 1) t 0

-- (t (t t):1):t, which isn't left-combed
abbrev pub spread : Labelled
spread = Joined t (Joined t t 0) 1
