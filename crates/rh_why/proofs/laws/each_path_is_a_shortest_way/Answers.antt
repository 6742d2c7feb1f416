use Rattle.std.specs.Prelude.{reverse}
use Rattle.rh_why.specs.Path.{path_of}
use Rattle.rh_why.proofs.Ways.{no_path, path_is_shortest, path_is_way, way_within}
use Rattle.rh_why.proofs.laws.each_path_is_a_shortest_way.Goals as goal

pub returns-clause-way : goal.returns-clause-way
returns-clause-way c = λ g to is within. path_is_way g is to within

pub returns-clause-shortest : goal.returns-clause-shortest
returns-clause-shortest c = λ g to steps is w. path_is_shortest g is to steps w

pub returns-clause-reached : goal.returns-clause-reached
returns-clause-reached c = λ g to is. (λ w. way_within g is to w, λ within. (reverse (path_of g to), path_is_way g is to within))

pub returns-clause-none : goal.returns-clause-none
returns-clause-none c = λ g to is past. no_path g is to past
