use Rattle.ts_board.proofs.board.Board.take.Given as goal

abbrev pub ghosts-take_out : goal.ghosts-take_out
ghosts-take_out g a = record { action = a.c }
