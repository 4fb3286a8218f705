pub mod ToldScenes
